-- One place of a list written anew: what stands at the others, and the largest of a number over all.
use Rattle.std.specs.Prelude.{◌≡◌, ℕ, zero, suc, ◌<◌, ◌≤◌, max, List, [], ◌∷◌, length, replicate, slice_index_or, slice_set, refl}
use Rattle.std.proofs.Common.{arith}
use Rattle.registers.specs.Most.{most}

module _ {A : Type 0} (d : A) where
  pub blank : (n i : ℕ) → slice_index_or (replicate n d) i d ≡ d
  blank zero i = refl
  blank (suc n) zero = refl
  blank (suc n) (suc i) = blank n i

  pub every_set : (P : A → Type 0) (xs : List A) (i : ℕ) (a : A) → ((c : ℕ) → P (slice_index_or xs c d)) → P a → (c : ℕ) → P (slice_index_or (slice_set xs i a) c d)
  every_set P [] i a all here c = all c
  every_set P (x ∷ xs) zero a all here zero = here
  every_set P (x ∷ xs) zero a all here (suc c) = all (suc c)
  every_set P (x ∷ xs) (suc i) a all here zero = all 0
  every_set P (x ∷ xs) (suc i) a all here (suc c) = every_set P xs i a (λ k. all (suc k)) here c

  pub most_at : (f : A → ℕ) → f d ≡ 0 → (xs : List A) (i : ℕ) → f (slice_index_or xs i d) ≤ most f xs
  most_at f z [] i = omega arith
  most_at f z (x ∷ xs) zero = omega arith
  most_at f z (x ∷ xs) (suc i) = omega (arith, most_at f z xs i)

  pub most_set : (f : A → ℕ) (xs : List A) (i : ℕ) (a : A) → i < length xs → max (most f (slice_set xs i a)) (f (slice_index_or xs i d)) ≡ max (most f xs) (f a)
  most_set f [] i a h = omega arith
  most_set f (x ∷ xs) zero a h = omega arith
  most_set f (x ∷ xs) (suc i) a h = omega (arith, most_set f xs i a (omega arith))

pub most_within : {A : Type 0} (f : A → ℕ) (k : ℕ) (xs : List A) (i : ℕ) (a : A) → most f xs ≤ k → f a ≤ k → most f (slice_set xs i a) ≤ k
most_within f k [] i a h q = h
most_within f k (x ∷ xs) zero a h q = omega arith
most_within f k (x ∷ xs) (suc i) a h q = omega (arith, most_within f k xs i a (omega arith) q)

pub most_there : {A : Type 0} (f : A → ℕ) (xs : List A) (i : ℕ) (a : A) → i < length xs → f a ≤ most f (slice_set xs i a)
most_there f [] i a h = absurd (omega arith)
most_there f (x ∷ xs) zero a h = omega arith
most_there f (x ∷ xs) (suc i) a h = omega (arith, most_there f xs i a (omega arith))
