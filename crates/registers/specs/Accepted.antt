-- When a call is accepted, and what follows from it.
use Rattle.std.specs.Prelude.{◌≡◌, ℕ, ◌<◌, ◌≤◌, Bool, true, false, ◌⊎◌, List, is_some, Some, None, Ok, Err, Option, Result, refl, slice_set}
use Rattle.std.proofs.Common.{inl, inr, arith}
use Rattle.std.proofs.lemmas.Bool.Decides.{nat_tests}
use Rattle.registers.specs.Operations.{checked, under_way, Begins, StepsBy}
use Rattle.registers.specs.declared.answers.Became.{Became}
use Rattle.registers.specs.declared.answers.Refusal.{Refusal}
use Rattle.registers.specs.Refusals.{Decided, refuse_read, refuse_write, refuse_step}

pub accept_read : (p : ℕ) (busy : Bool) → refuse_read p busy ≡ None → (p < 16) × (busy ≡ false)
accept_read p busy e = grind (arith, nat_tests)

pub accept_write : (bound p n : ℕ) (busy : Bool) → refuse_write bound p n busy ≡ None → (p < 16) × (busy ≡ false) × (1 ≤ n) × (n ≤ bound)
accept_write bound p n busy e = grind (arith, nat_tests)

pub accept_step : (p : ℕ) (busy : Bool) → refuse_step p busy ≡ None → (p < 16) × (busy ≡ true)
accept_step p busy e = grind (arith, nat_tests)

pub read_accepted : (p : ℕ) (busy : Bool) → p < 16 → busy ≡ false → refuse_read p busy ≡ None
read_accepted p busy h e = grind (arith, nat_tests)

pub write_accepted : (bound p n : ℕ) (busy : Bool) → p < 16 → busy ≡ false → 1 ≤ n → n ≤ bound → refuse_write bound p n busy ≡ None
write_accepted bound p n busy h e l t = grind (arith, nat_tests)

pub step_accepted : (p : ℕ) (busy : Bool) → p < 16 → busy ≡ true → refuse_step p busy ≡ None
step_accepted p busy h e = grind (arith, nat_tests)

-- what an accepted call answers and does
pub accepted : {S T : Type 0} (refusal : Option Refusal) (P : T → S → Type 0) (x y : S) (v : T) → Decided refusal P x (Ok v) y → (refusal ≡ None) × P v y
accepted None P x y v d = (refl, d)
accepted (Some e) P x y v d = let z : ◌≡◌ {A = ℕ} 0 1 = let q = d.0 in cc in absurd (omega arith)

-- a begin leaves the operations as they were, or it was accepted
pub either_begins : {A : Type 0} (refusal : Option Refusal) (p : ℕ) (a : A) (xs : List (Option A)) (r : Result (Unit {0}) Refusal) (ys : List (Option A)) → Begins refusal p a xs r ys
    → (ys ≡ xs) ⊎ ((refusal ≡ None) × (ys ≡ slice_set xs p (Some a)))
either_begins (Some e) p a xs r ys d = inl d.1
either_begins None p a xs (Ok v) ys d = inr (refl, d)
either_begins None p a xs (Err e) ys d = absurd d

-- what holds of each operation's access holds of a step
pub of_step : {A S : Type 0} (answer : A → Became) (after : A → S) (P : Became → S → Type 0) (o : Option A) (b : Became) (v : S) → ((a : A) → o ≡ Some a → P (answer a) (after a)) → StepsBy answer after o b v → P b v
of_step answer after P None b v all e = absurd e
of_step answer after P (Some a) b v all (said, now) = rw (said, now) (all a refl)

-- what an accepted call knows of what its processor was at
pub idle_before : {A : Type 0} (p : ℕ) (o : Option A) → refuse_read p (is_some o) ≡ None → (p < 16) × (o ≡ None)
idle_before p o e = grind (arith, nat_tests)

pub allowed_write : {A : Type 0} (bound p n : ℕ) (o : Option A) → Ok tt ≡ checked (refuse_write bound p n (is_some o)) → (p < 16) × (o ≡ None) × (1 ≤ n) × (n ≤ bound)
allowed_write bound p n o e = grind (arith, nat_tests)

pub found_under_way : {A : Type 0} (p : ℕ) (o : Option A) (a : A) → Ok a ≡ under_way p o → (p < 16) × (o ≡ Some a)
found_under_way p o a e = grind (arith, nat_tests)
