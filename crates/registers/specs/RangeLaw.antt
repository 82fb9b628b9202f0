-- The range keeps the plain meaning.
use Rattle.std.proofs.Common.{◌≡◌, ℕ, ◌<◌, ◌≤◌, max, Bool, true, false, cond, ltb, List, length, set, Some, None, refl, ap, ⊎_elim, arith, get_or-set_other, get_or-set_same}
use Rattle.std.proofs.lemmas.List.{get_or-replicate}
use Rattle.std.proofs.lemmas.Bool.{cases_eq, ltb-true, ltb-false}
use Rattle.registers.specs.declared.single.Single.{Single}
use Rattle.registers.specs.declared.single.Single.TheVariants.{Read, Write}
use Rattle.registers.specs.declared.range_state.Range.{Range}
use Rattle.registers.specs.Model.{Plain, Accesses}
use Rattle.registers.specs.Most.{greatest}
use Rattle.registers.specs.Operations.{at, doing_of}
use Rattle.registers.specs.Range.{range_model, range_meaning, range_answer, range_stepped, own_of}
use Rattle.registers.specs.Single.{single_op}
use Rattle.registers.specs.Accepted.{accept_step, of_step}
use Rattle.registers.specs.Slots.{blank, most_at, most_set}
use Rattle.registers.specs.Singles.{single_unspent, read_ends, write_ends}
use Rattle.registers.specs.Turns.{may_read, may_write, read_begins, write_begins}

-- no own number is above the largest
below : (own : List ℕ) (p : ℕ) → own_of own p ≤ greatest own
below own p = most_at 0 (λ n. n) refl own p

-- one processor's own number becomes n, which is no smaller
module _ (own : List ℕ) (p n : ℕ) (within : p < length own) (up : own_of own p ≤ n) where
  own_now : own_of (set own p n) p ≡ n
  own_now = get_or-set_same own p n 0 within

  greatest_now : greatest (set own p n) ≡ max (greatest own) n
  greatest_now = omega (arith, most_set 0 (λ m. m) own p n within, below (set own p n) p, own_now)

  risen : (q : ℕ) → own_of own q ≤ own_of (set own p n) q
  risen q = ⊎_elim (λ e. rw e (omega (arith, own_now))) (λ ne. omega (arith, get_or-set_other own p q n 0 ne)) (cases_eq q p)

-- a write of n: no own number falls, the largest is as it was or n, and the processor's is n or above
written : (own : List ℕ) (p n : ℕ) → p < length own → (above : Bool) → ltb (own_of own p) n ≡ above
    → ((q : ℕ) → own_of own q ≤ own_of (cond above (set own p n) own) q) × (greatest (cond above (set own p n) own) ≡ max (greatest own) n) × (n ≤ own_of (cond above (set own p n) own) p)
written own p n within true t =
    let up : own_of own p ≤ n = omega (arith, ltb-true (own_of own p) n t) in
    (risen own p n within up, greatest_now own p n within up, omega (arith, own_now own p n within up))
written own p n within false t =
    let down : n ≤ own_of own p = ltb-false (own_of own p) n t in
    (λ _. omega arith, omega (arith, below own p), down)

access : (x : Range) (p : ℕ) → p < 16 → (a : Single) → at x.state.operations p ≡ Some a
    → Accesses p (range_answer a x.state.shared (own_of x.state.own p)) (range_meaning x.state) (range_meaning (range_stepped x.state p a))
access x p h Read is =
    let own = x.state.own in
    let seen = max (own_of own p) x.state.shared in
    let within : p < length own = omega (arith, x.owners) in
    let under : seen ≤ greatest own = omega (arith, below own p, x.owned) in
    read_ends (record { sixteen = x.sixteen; processor = h; changed = refl }) _ _ _ _ (λ q _. risen own p seen within (omega arith) q) seen is
    (omega (arith, greatest_now own p seen within (omega arith))) (omega arith) under (omega (arith, own_now own p seen within (omega arith)))
access x p h (Write n) is =
    let own = x.state.own in
    let (up, raised, kept) = written own p n (omega (arith, x.owners)) (ltb (own_of own p) n) refl in
    write_ends (record { sixteen = x.sixteen; processor = h; changed = refl }) _ _ _ _ (λ q _. up q) n is raised kept

pub range_plain : Plain range_model
range_plain = record {
  within_bound = λ x _. let h = x.held in let k = x.asked in omega arith;
  below_ceiling = λ x _ p _. omega (arith, below x.state.own p);
  unspent = λ x _ p h. single_unspent range_model.stated (omega arith) (omega arith) (at x.state.operations p);
  new = λ x e. (rw e (record { all_idle = λ p _. ap (doing_of single_op) (blank None 16 p); floors_one = λ p h. get_or-replicate 16 p 1 0 h; ceiling_one = refl }), tt);
  read = λ x y p _ ok e.
      let (h, free) = may_read single_op p (at x.state.operations p) ok in
      (rw e (read_begins single_op (record { sixteen = x.sixteen; processor = h; changed = refl }) _ _ _ _ (λ _ _. omega arith) free refl refl), tt);
  write = λ x y p n _ ok e.
      let (h, free, _, _) = may_write single_op 256 p n (at x.state.operations p) ok in
      (rw e (write_begins single_op (record { sixteen = x.sixteen; processor = h; changed = refl }) _ _ _ _ (λ _ _. omega arith) n free refl refl), tt);
  step = λ x y p b _ ok e.
      let access = access x p (accept_step p _ ok).0 in
      (of_step _ _ (λ b v. Accesses p b (range_meaning x.state) (range_meaning v)) (at x.state.operations p) b y.state access e, tt);
}
