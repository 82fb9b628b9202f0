-- Worked cases of the tree and of the range, as runs of the very relations that their calls promise: each call accepted,
-- each access with the switch that it looks at or sets.
use Rattle.std.specs.Prelude.{◌≡◌, ℕ, Bool, true, false, List, [], ◌∷◌, replicate, Some, None, Ok, Option, slice_set}
use Rattle.registers.specs.declared.answers.Became.{Became}
use Rattle.registers.specs.declared.answers.Became.TheVariants.{Going, Read, Written}
use Rattle.registers.specs.declared.range_state.RangeState.{RangeState}
use Rattle.registers.specs.Meaning.{level}
use Rattle.registers.specs.Model.{Reads, Writes, Steps}
use Rattle.registers.specs.Operations.{at}
use Rattle.registers.specs.Range.{range_new, range_on_state, own_of}
use Rattle.registers.specs.Runs.{Run, began_read, began_write, accessed}
use Rattle.trees.specs.declared.tree_state.TreeState.{TreeState}
use Rattle.trees.specs.declared.walk.Walk.{Walk}
use Rattle.trees.specs.Tree.{tree_new, tree_on_state, tree_meaning}
use Rattle.trees.specs.Walks.{Access, looks, sets, next}

-- the next access of a processor that is at a walk
abbrev pub next_of : Option Walk → Option Access
next_of None = None
next_of (Some w) = Some (next w)

-- processor p makes these accesses, one a step; the last step says b, those before it that the operation goes on
pub data Makes (p : ℕ) : TreeState → List Access → Became → TreeState → Type 0 where
  last : {s v : TreeState} {a : Access} {b : Became} → next_of (at s.operations p) ≡ Some a → Steps tree_on_state s p (Ok b) v → Makes p s (a ∷ []) b v
  then : {s m v : TreeState} {a : Access} {path : List Access} {b : Became} → next_of (at s.operations p) ≡ Some a → Steps tree_on_state s p (Ok Going) m
      → Makes p m path b v → Makes p s (a ∷ path) b v

-- processor p begins a write of n and makes these accesses, of which the last says b
abbrev pub Write : (p n : ℕ) → TreeState → List Access → Became → TreeState → Type 0
Write p n s path b v = (m : TreeState) × Writes tree_on_state s p n (Ok tt) m × Makes p m path b v

-- processor p reads to the end and gets a
abbrev pub Answer : (p a : ℕ) → TreeState → Type 0
Answer p a s = (m : TreeState) × (v : TreeState) × (path : List Access) × Reads tree_on_state s p (Ok tt) m × Makes p m path (Read a) v

-- all processors are idle, and these switches are on
abbrev lit : List ℕ → List Bool
lit [] = replicate 128 false
lit (k ∷ ks) = slice_set (lit ks) k true

abbrev pub at_rest : List ℕ → TreeState
at_rest ks = record { on = lit ks; operations = replicate 16 None }

-- in a new tree processor 1 writes 6; a read then answers 6
abbrev pub WriteSix : Type 0
WriteSix =
    Write 1 6 tree_new (looks 1 ∷ looks 2 ∷ looks 4 ∷ looks 8 ∷ looks 33 ∷ sets 66 ∷ sets 16 ∷ []) Written (at_rest (16 ∷ 66 ∷ []))
    × Answer 2 6 (at_rest (16 ∷ 66 ∷ []))

-- after it processor 1 writes 3: it looks at five switches and ends, and the level is 6
abbrev pub WriteThreeAfterSix : Type 0
WriteThreeAfterSix =
    Write 1 3 (at_rest (16 ∷ 66 ∷ [])) (looks 1 ∷ looks 2 ∷ looks 4 ∷ looks 8 ∷ looks 16 ∷ []) Written (at_rest (16 ∷ 66 ∷ []))
    × (level (tree_meaning (at_rest (16 ∷ 66 ∷ []))) ≡ 6)

-- in a new tree processor 1, writing 24, has set three switches and not yet switch 4; beside it processor 2 writes 20, for
-- which it sets switch 4; a read then answers 24
abbrev pub WriteTwentyBesideTwentyFour : Type 0
WriteTwentyBesideTwentyFour =
    (half : TreeState) × (both : TreeState)
    × Write 1 24 tree_new (looks 1 ∷ looks 2 ∷ looks 9 ∷ sets 75 ∷ sets 37 ∷ sets 18 ∷ []) Going half
    × (half.on ≡ lit (18 ∷ 37 ∷ 75 ∷ []))
    × (next_of (at half.operations 1) ≡ Some (sets 4))
    × Write 2 20 half (looks 1 ∷ looks 2 ∷ looks 9 ∷ looks 18 ∷ sets 4 ∷ []) Written both
    × Answer 3 24 both

-- processor 1 of a new range has written 3; processor 2, whose own number is 1, writes 2; processor 1 then reads 3, and
-- processor 3 reads 2
abbrev pub RangeOfThreeAndTwo : Type 0
RangeOfThreeAndTwo =
    (three : RangeState) × (end : RangeState)
    × Run range_on_state range_new (began_write 1 3 ∷ accessed 1 Written ∷ []) three
    × (own_of three.own 2 ≡ 1)
    × Run range_on_state three
    (began_write 2 2 ∷ accessed 2 Written ∷ began_read 1 ∷ accessed 1 (Read 3) ∷ began_read 3 ∷ accessed 3 (Read 2) ∷ []) end

abbrev pub Cases : Type 0
Cases = WriteSix × WriteThreeAfterSix × WriteTwentyBesideTwentyFour × RangeOfThreeAndTwo
