-- The tree of switches as a head register.
use Rattle.std.specs.Prelude.{◌≡◌, ℕ, ◌-◌, Bool, false, List, replicate, Some, None, Option, slice_set}
use Rattle.registers.specs.Meaning.{Meaning}
use Rattle.registers.specs.Model.{Model, over}
use Rattle.registers.specs.Operations.{at, meaning_of, StepsBy}
use Rattle.trees.specs.declared.walk.Walk.{Walk}
use Rattle.trees.specs.declared.walk.Walk.TheVariants.{Reading, Looking, Setting}
use Rattle.trees.specs.declared.tree_state.Tree as tree
use Rattle.trees.specs.declared.tree_state.TreeState as state
use Rattle.trees.specs.Switches.{reach, shown}
use Rattle.trees.specs.Walks.{descend, next, switches_after, seen, goes_on, walk_answer, walk_op}

abbrev pub tree_new : state.TreeState
tree_new = record { on = replicate 128 false; operations = replicate 16 None }

-- processor p is at another operation
abbrev pub tree_at : state.TreeState → ℕ → Option Walk → state.TreeState
tree_at s p o = record { on = s.on; operations = slice_set s.operations p o }

-- one access of a walk of processor p
abbrev pub tree_stepped : state.TreeState → ℕ → Walk → state.TreeState
tree_stepped s p w = record { on = switches_after (next w) s.on; operations = slice_set s.operations p (goes_on w (seen (next w) s.on)) }

-- a processor's floor is what the switches show; while it reads, what its read would answer if it ran on alone
abbrev pub tree_floor : List Bool → Option Walk → ℕ
tree_floor t None = shown t
tree_floor t (Some (Reading k l)) = reach l t k - 127
tree_floor t (Some (Looking n l d)) = shown t
tree_floor t (Some (Setting n l d)) = shown t

abbrev pub tree_meaning : state.TreeState → Meaning
tree_meaning s = meaning_of walk_op s.operations (λ p. tree_floor s.on (at s.operations p)) (shown s.on)

-- the register by what it holds; `Tree` adds what such a state keeps
abbrev pub tree_on_state : Model state.TreeState
tree_on_state = record {
  stated = record { bound = 128; read = 7; write = 7 };
  meaning = tree_meaning;
  sound = λ _. Unit {0};
  starts = λ s. s ≡ tree_new;
  reads = λ s p v. v ≡ tree_at s p (Some (Reading 1 7));
  writes = λ s p n v. v ≡ tree_at s p (descend n 7 0);
  steps = λ s p b v. StepsBy (λ w. walk_answer w (seen (next w) s.on)) (tree_stepped s p) (at s.operations p) b v;
}

abbrev pub tree_model : Model tree.Tree
tree_model = over (λ x. x.state) tree_on_state
