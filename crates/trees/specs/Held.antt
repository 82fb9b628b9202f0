-- What the ghost fields of a tree give of its walks, and what an access leaves of its ceiling.
use Rattle.std.proofs.Common.{◌≡◌, ℕ, suc, ◌+◌, ◌*◌, ◌^◌, ◌<◌, ◌≤◌, Bool, false, List, set, replicate, Some, None, Option, refl, subst, arith}
use Rattle.registers.specs.Meaning.{asked}
use Rattle.registers.specs.Operations.{at, doing_of}
use Rattle.registers.specs.Slots.{most_at, most_there}
use Rattle.registers.specs.Turns.{Becomes, asks, asked_at}
use Rattle.trees.specs.declared.walk.Walk.{Walk}
use Rattle.trees.specs.declared.tree_state.Tree.{Tree}
use Rattle.trees.specs.Fits.{ceiling, Looker, Setter, Fit}
use Rattle.trees.specs.Switches.{reach, shown}
use Rattle.trees.specs.Walks.{next, switches_after, seen, goes_on, walk_op}
use Rattle.trees.specs.Goes.{spent_up}
use Rattle.trees.specs.Moves.{After, after}
use Rattle.trees.specs.Reach.{bounds, rises, capped}
use Rattle.trees.specs.Way.{ones_node}

pub fit_at : (x : Tree) (p : ℕ) (o : Option Walk) → at x.state.operations p ≡ o → Fit x.state.on o
fit_at x p o is = subst (Fit x.state.on) is (x.fit p)

pub one_shown : (t : List Bool) → (128 ≤ reach 7 t 1) × (reach 7 t 1 < 256)
one_shown t = let h = bounds 7 t 1 in omega arith

module _ (x : Tree) (p : ℕ) (h : p < 16) where
  abbrev t : List Bool
  t = x.state.on

  abbrev ops : List (Option Walk)
  ops = x.state.operations

  -- one access leaves the ceiling
  pub same_ceiling : (o : Option Walk) (s : List Bool) (q : Option Walk) → at ops p ≡ o → After t (ceiling t ops) o s q → ceiling s (set ops p q) ≡ ceiling t ops
  same_ceiling o s q is f =
      let u = rises t s f.up 7 1 in
      let g = x.bounded in
      let e = f.ends in
      let turn : Becomes ops (set ops p q) p q = record { sixteen = x.sixteen; processor = h; changed = refl } in
      let m = rw is at (asks walk_op turn) in
      let r = most_there (λ o. asked (doing_of walk_op o)) ops p q (omega (arith, x.sixteen)) in
      let a = rw is at (most_at None (λ o. asked (doing_of walk_op o)) refl ops p) in
      let w = one_shown t in
      let v : 1 * 2 ^ 7 ≤ ceiling t ops + 127 = omega arith in
      let k = capped s (ceiling t ops) f.caps g 7 1 (omega arith) v in
      omega arith

  pub stepped : (w : Walk) → at ops p ≡ Some w → After t (ceiling t ops) (Some w) (switches_after (next w) t) (goes_on w (seen (next w) t))
  stepped w is = after t (ceiling t ops) x.wide x.bounded x.capped w (fit_at x p (Some w) is) (asked_at walk_op ops p (ceiling t ops) w (omega arith) is)

-- a new tree shows 1
pub new_shown : shown (replicate 128 false) ≡ 1
unfolding reach
new_shown = refl

-- an access is left to every write
pub looker_room : (n l d : ℕ) → Looker n l d → d < 7
looker_room n l d f = omega (arith, f.spent, f.some, ones_node n f.low f.high l f.few)

pub setter_room : (t : List Bool) (n l d : ℕ) → Setter t n l d → d < 7
setter_room t n l d f = let few = f.few in omega (arith, f.spent, f.right, spent_up t n l, ones_node n f.low f.high (suc l) few)
