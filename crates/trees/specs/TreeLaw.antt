-- The tree keeps the plain meaning.
use Rattle.std.proofs.Common.{◌≡◌, ℕ, ◌+◌, ◌-◌, ◌<◌, ◌≤◌, Bool, true, false, cond, ltb, List, set, Some, None, Option, refl, ap, ◌∙◌, ⊎_elim, arith}
use Rattle.std.proofs.lemmas.Bool.{cases_eq, ltb-true, ltb-false}
use Rattle.registers.specs.declared.answers.Became.TheVariants.{Going, Read}
use Rattle.registers.specs.Meaning.{busy, reading, writing}
use Rattle.registers.specs.Model.{Plain, Accesses, GoesOn, Unspent}
use Rattle.registers.specs.Operations.{at, doing_of}
use Rattle.registers.specs.Accepted.{accept_step, of_step}
use Rattle.registers.specs.Slots.{blank}
use Rattle.registers.specs.Turns.{Becomes, may_read, may_write, now_at, now_doing, else_at, undisturbed, read_begins, write_begins}
use Rattle.trees.specs.declared.walk.Walk.{Walk}
use Rattle.trees.specs.declared.walk.Walk.TheVariants.{Reading, Looking, Setting}
use Rattle.trees.specs.declared.tree_state.Tree.{Tree}
use Rattle.trees.specs.declared.tree_state.TreeState.{TreeState}
use Rattle.trees.specs.Fits.{ceiling, Reader, Fit}
use Rattle.trees.specs.Switches.{switch, child, reach}
use Rattle.trees.specs.Tree.{tree_new, tree_model, tree_meaning, tree_floor, tree_at, tree_stepped}
use Rattle.trees.specs.Walks.{descend, next, seen, goes_on, walk_answer, write_answer, walk_op}
use Rattle.trees.specs.Goes.{Goes, descend_busy}
use Rattle.trees.specs.Held.{fit_at, same_ceiling, stepped, new_shown, looker_room, setter_room}
use Rattle.trees.specs.Moves.{After, floor_below, floor_up, looks_on, sets_on, starts_write, goes_writing, goes_floor}
use Rattle.trees.specs.Reach.{◌⊑◌}

-- processor p of x is at o, and the switches have not gone off
module _ (x : Tree) (v : TreeState) (p : ℕ) (o : Option Walk) (b : Becomes x.state.operations v.operations p o) (up : x.state.on ⊑ v.on) where
  now_floor : tree_floor v.on (at v.operations p) ≡ tree_floor v.on o
  now_floor = ap (tree_floor v.on) (now_at walk_op b)

  floors : tree_floor x.state.on (at x.state.operations p) ≤ tree_floor v.on o
      → (q : ℕ) → q < 16 → tree_floor x.state.on (at x.state.operations q) ≤ tree_floor v.on (at v.operations q)
  floors own q _ = ⊎_elim
      (λ e. rw e (omega (arith, now_floor)))
      (λ ne. omega (arith, ap (tree_floor v.on) (else_at walk_op b q ne), floor_up x.state.on v.on up (at x.state.operations q)))
      (cases_eq q p)

-- a read's access
read_goes : (x : Tree) (v : TreeState) (p k l : ℕ) → Reader x.state.on k l → (tree_meaning x.state).floor p ≡ tree_floor x.state.on (Some (Reading k l))
    → (tree_meaning x.state).floor p ≤ (tree_meaning x.state).ceiling → (tree_meaning x.state).floor p ≤ (tree_meaning v).floor p
    → (on more : Bool) → switch x.state.on k ≡ on → ltb 1 l ≡ more → (tree_meaning v).doing p ≡ doing_of walk_op (cond more (Some (Reading (child on k) (l - 1))) None)
    → GoesOn p (tree_meaning x.state) (tree_meaning v) (busy (reading (7 - l))) (cond more Going (Read (child on k - 127)))
unfolding reach
read_goes x v p k l f floor under up on true e m doing =
    let few = f.few in
    let more = ltb-true 1 l m in
    let u : 7 - (l - 1) ≡ 7 - l + 1 = omega arith in
    doing ∙ ap (λ j. busy (reading j)) u
read_goes x v p k l f floor under up on false e m doing =
    let some = f.some in
    let u : l ≡ 1 = omega (arith, ltb-false 1 l m) in
    let r : reach l x.state.on k ≡ child (switch x.state.on k) k = ap (λ j. reach j x.state.on k) u in
    let q = ap (λ b. child b k) e in
    record { ended = doing; not_below_floor = omega arith; not_above_ceiling = omega arith; kept = omega arith }

-- a write's access
write_goes : (x : Tree) (v : TreeState) (p n d : ℕ) (o : Option Walk) → Goes v.on n (d + 1) o → (tree_meaning v).doing p ≡ doing_of walk_op o → (tree_meaning v).floor p ≡ tree_floor v.on o
    → GoesOn p (tree_meaning x.state) (tree_meaning v) (busy (writing n d)) (write_answer o)
write_goes x v p n d None g doing floor = record { ended = doing; kept = omega arith }
write_goes x v p n d (Some w) g doing floor = doing ∙ goes_writing v.on n (d + 1) (Some w) g tt

-- one access of a walk
module _ (x : Tree) (p : ℕ) (h : p < 16) (w : Walk) (is : at x.state.operations p ≡ Some w) where
  abbrev after : Option Walk
  after = goes_on w (seen (next w) x.state.on)

  abbrev later : TreeState
  later = tree_stepped x.state p w

  f : After x.state.on (ceiling x.state.on x.state.operations) (Some w) later.on after
  f = stepped x p h w is

  turn : Becomes x.state.operations later.operations p after
  turn = record { sixteen = x.sixteen; processor = h; changed = refl }

  risen : (q : ℕ) → q < 16 → (tree_meaning x.state).floor q ≤ (tree_meaning later).floor q
  risen = floors x later p after turn f.up (rw is f.floors)

  doing : (tree_meaning later).doing p ≡ doing_of walk_op after
  doing = now_doing walk_op turn

  floor : (tree_meaning later).floor p ≡ tree_floor later.on after
  floor = now_floor x later p after turn f.up

goes : (x : Tree) (p : ℕ) (h : p < 16) (w : Walk) (is : at x.state.operations p ≡ Some w)
    → GoesOn p (tree_meaning x.state) (tree_meaning (tree_stepped x.state p w)) (busy (walk_op w)) (walk_answer w (seen (next w) x.state.on))
goes x p h (Reading k l) is =
    let w = Reading k l in
    read_goes x (tree_stepped x.state p w) p k l (fit_at x p (Some w) is) (ap (tree_floor x.state.on) is) (omega (arith, floor_below x.state.on (at x.state.operations p) (x.fit p)))
    (risen x p h w is p h) (switch x.state.on k) (ltb 1 l) refl refl (doing x p h w is)
goes x p h (Looking n l d) is =
    let w = Looking n l d in
    write_goes x (tree_stepped x.state p w) p n d (after x p h w is)
    (looks_on x.state.on (ceiling x.state.on x.state.operations) x.wide x.bounded x.capped n l d (fit_at x p (Some w) is)) (doing x p h w is) (floor x p h w is)
goes x p h (Setting n l d) is =
    let w = Setting n l d in
    write_goes x (tree_stepped x.state p w) p n d (after x p h w is)
    (sets_on x.state.on (ceiling x.state.on x.state.operations) x.wide x.bounded x.capped n l d (fit_at x p (Some w) is)) (doing x p h w is) (floor x p h w is)

access : (x : Tree) (p : ℕ) (h : p < 16) (w : Walk) → at x.state.operations p ≡ Some w
    → Accesses p (walk_answer w (seen (next w) x.state.on)) (tree_meaning x.state) (tree_meaning (tree_stepped x.state p w))
access x p h w is = record {
  undisturbed = undisturbed walk_op (turn x p h w is) _ _ _ _ (risen x p h w is);
  same_ceiling = same_ceiling x p h (Some w) _ _ is (f x p h w is);
  goes_on = rw is (goes x p h w is);
}

spare : (t : List Bool) (o : Option Walk) → Fit t o → Unspent tree_model.stated (doing_of walk_op o)
spare t None f = tt
spare t (Some (Reading k l)) f = omega (arith, f.some)
spare t (Some (Looking n l d)) f = looker_room n l d f
spare t (Some (Setting n l d)) f = setter_room t n l d f

pub tree_plain : Plain tree_model
tree_plain = record {
  within_bound = λ x _. x.bounded;
  below_ceiling = λ x _ p _. omega (arith, floor_below x.state.on (at x.state.operations p) (x.fit p));
  unspent = λ x _ p h. spare x.state.on (at x.state.operations p) (x.fit p);
  new = λ x e. (
    rw e (record {
      all_idle = λ p _. ap (doing_of walk_op) (blank None 16 p);
      floors_one = λ p _. ap (tree_floor tree_new.on) (blank {A = Option Walk} None 16 p) ∙ new_shown;
      ceiling_one = omega (arith, new_shown);
    }),
    tt,
  );
  read = λ x y p _ ok e.
      let (h, free) = may_read walk_op p (at x.state.operations p) ok in
      let o = Some (Reading 1 7) in
      let turn : Becomes x.state.operations (set x.state.operations p o) p o = record { sixteen = x.sixteen; processor = h; changed = refl } in
      (rw e (read_begins walk_op turn _ _ _ _ (floors x (tree_at x.state p o) p o turn (λ k on. on) (rw free (omega arith))) free refl refl), tt);
  write = λ x y p n _ ok e.
      let (h, free, low, high) = may_write walk_op 128 p n (at x.state.operations p) ok in
      let o = descend n 7 0 in
      let g = starts_write x.state.on n low high in
      let turn : Becomes x.state.operations (set x.state.operations p o) p o = record { sixteen = x.sixteen; processor = h; changed = refl } in
      (rw e (write_begins walk_op turn _ _ _ _ (floors x (tree_at x.state p o) p o turn (λ k on. on) (rw free (goes_floor x.state.on n 0 o g))) n free (goes_writing x.state.on n 0 o g (descend_busy n 6 0)) refl), tt);
  step = λ x y p b _ ok e.
      let access = access x p (accept_step p _ ok).0 in
      (of_step _ _ (λ b v. Accesses p b (tree_meaning x.state) (tree_meaning v)) (at x.state.operations p) b y.state access e, tt);
}
