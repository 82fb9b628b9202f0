-- The ghost fields of a tree after a begin and after an access, and of a new tree.
use Rattle.std.proofs.Common.{◌≡◌, ℕ, ◌^◌, ◌<◌, ◌≤◌, max, Bool, false, List, length, get_or, set, replicate, is_some, Some, None, Option, Result, ⊎_elim, sym, refl, ◌∙◌, subst, mul-le-mul_left, arith, length-set}
use Rattle.std.proofs.lemmas.Nat.{pow_below}
use Rattle.std.proofs.lemmas.Bool.{both_ways}
use Rattle.registers.specs.declared.answers.Refusal.{Refusal}
use Rattle.registers.specs.Accepted.{either_begins, idle_before}
use Rattle.registers.specs.Meaning.{asked}
use Rattle.registers.specs.Operations.{at, doing_of, Begins}
use Rattle.registers.specs.Refusals.{refuse_read}
use Rattle.registers.specs.Slots.{blank, every_set}
use Rattle.registers.specs.Turns.{Becomes, asks}
use Rattle.trees.specs.declared.walk.Walk.{Walk}
use Rattle.trees.specs.declared.walk.Walk.TheVariants.{Reading}
use Rattle.trees.specs.declared.tree_state.Tree.{Tree}
use Rattle.trees.specs.Fits.{Capped, ceiling, Reader, Fit}
use Rattle.trees.specs.Switches.{reach}
use Rattle.trees.specs.Walks.{next, switches_after, seen, goes_on, walk_op}
use Rattle.trees.specs.Moves.{fit_up, starts_read}
use Rattle.trees.specs.Reach.{bounds, ◌⊑◌}
use Rattle.trees.specs.Held.{same_ceiling, stepped}

-- what a tree keeps, as its ghost fields have it
abbrev pub Kept : List Bool → List (Option Walk) → Type 0
Kept t ops = record {
  sixteen : length ops ≡ 16;
  wide : length t ≡ 128;
  bounded : ceiling t ops ≤ 128;
  capped : Capped t (ceiling t ops);
  fit : (p : ℕ) → Fit t (at ops p);
}

-- processor p of x is at o, and the switches are s
pub keeps : (x : Tree) (p : ℕ) (s : List Bool) (o : Option Walk) (top : ℕ) → ceiling s (set x.state.operations p o) ≡ top → top ≤ 128
    → x.state.on ⊑ s → length s ≡ length x.state.on → Capped s top → Fit s o → Kept s (set x.state.operations p o)
keeps x p s o top is small up wide caps fit = record {
  sixteen = simp length-set x.sixteen;
  wide = wide ∙ x.wide;
  bounded = rw is small;
  capped = rw is caps;
  fit = every_set None (Fit s) x.state.operations p o (λ k. fit_up x.state.on s up (at x.state.operations k) (x.fit k)) fit;
}

module _ (x : Tree) (p : ℕ) (h : p < 16) where
  abbrev t : List Bool
  t = x.state.on

  abbrev ops : List (Option Walk)
  ops = x.state.operations

  -- a begin raises the ceiling to what is asked for
  pub begun_ceiling : (q : Option Walk) → at ops p ≡ None → ceiling t (set ops p q) ≡ max (ceiling t ops) (asked (doing_of walk_op q))
  begun_ceiling q free =
      let turn : Becomes ops (set ops p q) p q = record { sixteen = x.sixteen; processor = h; changed = refl } in
      let m = rw free at (asks walk_op turn) in
      omega arith

  pub begin_keeps : (q : Option Walk) → at ops p ≡ None → asked (doing_of walk_op q) ≤ 128 → Fit t q → Kept t (set ops p q)
  begin_keeps q free small fit =
      keeps x p t q (max (ceiling t ops) (asked (doing_of walk_op q))) (begun_ceiling q free) (omega (arith, x.bounded)) (λ k on. on) refl
      (λ l k o. omega (arith, x.capped l k o)) fit

  pub step_keeps : (w : Walk) → at ops p ≡ Some w → Kept (switches_after (next w) t) (set ops p (goes_on w (seen (next w) t)))
  step_keeps w is =
      let f = stepped x p h w is in
      keeps x p (switches_after (next w) t) (goes_on w (seen (next w) t)) (ceiling t ops) (same_ceiling x p h (Some w) _ _ is f) x.bounded f.up f.wide f.caps f.fit

-- the begin of a read, accepted or refused
pub read_keeps : (x : Tree) (p : ℕ) (r : Result (Unit {0}) Refusal) (ys : List (Option Walk)) → Begins (refuse_read p (is_some (at x.state.operations p))) p (Reading 1 7) x.state.operations r ys
    → Kept x.state.on ys
read_keeps x p r ys d = ⊎_elim
    (λ same. rw same (record { sixteen = x.sixteen; wide = x.wide; bounded = x.bounded; capped = x.capped; fit = x.fit }))
    (λ begun.
    let (h, free) = idle_before p (at x.state.operations p) begun.0 in
    rw begun.1 (begin_keeps x p h (Some (Reading 1 7)) free (omega arith) (starts_read x.state.on)))
    (either_begins (refuse_read p (is_some (at x.state.operations p))) p (Reading 1 7) x.state.operations r ys d)

-- a new tree
pub new_keeps : Kept (replicate 128 false) (replicate 16 None)
unfolding reach
new_keeps = record {
  sixteen = refl;
  wide = refl;
  bounded = omega arith;
  capped = λ l k o. absurd (both_ways (get_or (replicate 128 false) k false) (blank false 128 k) o.on);
  fit = λ p. subst (Fit (replicate 128 false)) (sym (blank None 16 p)) tt;
}

-- the switches that walks look at and set are there
pub reads_switch : (t : List Bool) (k l : ℕ) → Reader t k l → (k < 128) × (l ≤ 1 → 64 ≤ k)
reads_switch t k l f =
    let some = f.some in
    let deep = f.deep in (
      omega (arith, f.reached, bounds 7 t 1, mul-le-mul_left {m = 2} {n = 2 ^ l} k (pow_below 0 l some)),
      λ h. let e : l ≡ 1 = omega arith in let d = rw e at deep in omega arith,
    )
