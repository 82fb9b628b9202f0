-- The level of a meaning.
use Rattle.std.proofs.Common.{◌≡◌, ℕ, zero, suc, ◌<◌, ◌≤◌, ⊎_elim, arith}
use Rattle.std.proofs.lemmas.Bool.{cases_eq}
use Rattle.registers.specs.Meaning.{Meaning, largest, level}

largest_below : (n : ℕ) (f : ℕ → ℕ) (v : ℕ) → ((k : ℕ) → k < n → f k ≤ v) → largest n f ≤ v
unfolding largest
largest_below zero f v h = omega arith
largest_below (suc n) f v h = omega (arith, h n (omega arith), largest_below n f v (λ k l. h k (omega arith)))

largest_at : (n : ℕ) (f : ℕ → ℕ) (p : ℕ) → p < n → f p ≤ largest n f
unfolding largest
largest_at zero f p h = omega arith
largest_at (suc n) f p h = ⊎_elim (λ e. rw e (omega arith)) (λ ne. omega (arith, largest_at n f p (omega arith))) (cases_eq p n)

-- no floor is above the level
pub level_at : (m : Meaning) (p : ℕ) → p < 16 → m.floor p ≤ level m
level_at m p h = largest_at 16 m.floor p h

-- a floor that no other exceeds is the level
pub level_is : (m : Meaning) (p : ℕ) → p < 16 → ((q : ℕ) → q < 16 → m.floor q ≤ m.floor p) → m.floor p ≡ level m
level_is m p h all = omega (arith, largest_below 16 m.floor (m.floor p) all, largest_at 16 m.floor p h)
