-- In every run an operation under way has made just the accesses that its processor's steps count, and fewer than stated.
use Rattle.std.proofs.Common.{◌≡◌, ℕ, ◌+◌, ◌<◌, Bool, true, false, cond, eqb, List, refl, arith}
use Rattle.std.proofs.lemmas.Bool.{eqb-true, eqb-false}
use Rattle.registers.specs.declared.answers.Became.{Became}
use Rattle.registers.specs.declared.answers.Became.TheVariants.{Going, Read, Written}
use Rattle.registers.specs.Meaning.{Meaning, Doing, idle, busy, reading, writing}
use Rattle.registers.specs.Model.{Limits, Model, Plain, GoesOn, Unspent, Undisturbed}
use Rattle.registers.specs.Runs.{Event, Run, done, read, write, access, own_accesses, Within, EndsInTime}
use Rattle.registers.proofs.Callers as caller

-- the operation has made k accesses
abbrev Counts : Doing → ℕ → Type 0
Counts idle k = Unit {0}
Counts (busy (reading j)) k = j ≡ k
Counts (busy (writing n j)) k = j ≡ k

within : (limits : Limits) (d : Doing) (k : ℕ) → Counts d k → Unspent limits d → Within limits d k
within limits idle k c u = tt
within limits (busy (reading j)) k c u = omega arith
within limits (busy (writing n j)) k c u = omega arith

counts_on : (p k : ℕ) (m m' : Meaning) (d : Doing) (b : Became) → Counts d k → GoesOn p m m' d b → Counts (m'.doing p) (k + 1)
counts_on p k m m' idle b c g = absurd g
counts_on p k m m' (busy (reading j)) Going c g = rw g (omega arith)
counts_on p k m m' (busy (reading j)) (Read a) c g = rw g.ended tt
counts_on p k m m' (busy (reading j)) Written c g = absurd g
counts_on p k m m' (busy (writing n j)) Going c g = rw g (omega arith)
counts_on p k m m' (busy (writing n j)) (Read a) c g = absurd g
counts_on p k m m' (busy (writing n j)) Written c g = rw g.ended tt

-- a call of processor q, for which k becomes k'
after : (p q k k' : ℕ) (m m' : Meaning) → p < 16 → Undisturbed q m m' → Counts (m.doing p) k → (p ≡ q → Counts (m'.doing p) k')
    → (same : Bool) → eqb q p ≡ same → Counts (m'.doing p) (cond same k' k)
after p q k k' m m' h u c own true e = own (let z = eqb-true q p e in omega arith)
after p q k k' m m' h u c own false e = rw (u.others p h (λ z. eqb-false q p e (omega arith))) c

module _ {S : Type 0} (r : Model S) (law : Plain r) (p : ℕ) (h : p < 16) where
  counted : {x y : S} {es : List Event} → Run r x es y → (k : ℕ) → r.sound x → Counts ((r.meaning x).doing p) k → Within r.stated ((r.meaning y).doing p) (own_accesses p k es)
  counted (done {x}) k s c = within r.stated ((r.meaning x).doing p) k c (law.unspent x s p h)
  counted (read {x} {y} q d run) k s c =
      let (b, t, _) = caller.read_begun r law x y q s d in
      counted run (cond (eqb q p) 0 k) t (after p q k 0 (r.meaning x) (r.meaning y) h b.undisturbed c (λ e. rw e (rw b.begun refl)) (eqb q p) refl)
  counted (write {x} {y} q n d run) k s c =
      let (b, t, _) = caller.write_begun r law x y q n s d in
      counted run (cond (eqb q p) 0 k) t (after p q k 0 (r.meaning x) (r.meaning y) h b.undisturbed c (λ e. rw e (rw b.begun refl)) (eqb q p) refl)
  counted (access {x} {y} q b d run) k s c =
      let (a, t, _) = caller.accessed r law x y q b s d in
      counted run (cond (eqb q p) (k + 1) k) t
      (after p q k (k + 1) (r.meaning x) (r.meaning y) h a.undisturbed c
      (λ e. counts_on p k (r.meaning x) (r.meaning y) ((r.meaning x).doing p) b c (rw e a.goes_on)) (eqb q p) refl)

  counts_idle : (d : Doing) → d ≡ idle → Counts d 0
  counts_idle d e = rw e tt

pub ends_in_time_lem : {S : Type 0} (r : Model S) → Plain r → EndsInTime r
ends_in_time_lem r law x y es new run p h =
    let (n, s) = law.new x new in
    counted r law p h run 0 s (counts_idle r law p h ((r.meaning x).doing p) (n.all_idle p h))
