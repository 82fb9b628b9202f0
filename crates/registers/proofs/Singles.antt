-- What a begin and an access leave of the operations of registers each of whose operations is one access.
use Rattle.std.proofs.Common.{◌≡◌, ℕ, ◌<◌, ◌≤◌, Bool, List, set, is_some, Some, None, Ok, Option, Result, ⊎_elim, arith}
use Rattle.registers.specs.declared.answers.Refusal.{Refusal}
use Rattle.registers.specs.declared.single.Single.{Single}
use Rattle.registers.specs.Accepted.{accepted, either_begins, accept_write, accept_step}
use Rattle.registers.specs.Meaning.{busy, asked}
use Rattle.registers.specs.Operations.{most_asked, Begins, Takes}
use Rattle.registers.specs.Refusals.{refuse_write, refuse_step}
use Rattle.registers.specs.Single.{single_op}
use Rattle.registers.specs.Turns.{still_asked}

-- an operation that was given out
pub taken : (p : ℕ) (o : Option Single) (xs ys : List (Option Single)) (a : Single) → Takes p o xs (Ok a) ys → (p < 16) × (o ≡ Some a) × (ys ≡ set xs p None)
taken p o xs ys a d =
    let (none, given) = accepted (refuse_step p (is_some o)) _ xs ys a d in
    ((accept_step p (is_some o) none).0, given.0, given.1)

-- no processor asks for more than a bound, after a begin or an access
module _ (xs ys : List (Option Single)) (p bound : ℕ) (small : most_asked single_op xs ≤ bound) where
  pub begins_asked : (refusal : Option Refusal) (a : Single) (r : Result (Unit {0}) Refusal) → Begins refusal p a xs r ys → (refusal ≡ None → asked (busy (single_op a)) ≤ bound)
      → most_asked single_op ys ≤ bound
  begins_asked refusal a r d fits = ⊎_elim (λ same. rw same small) (λ begun. rw begun.1 (still_asked single_op xs p bound (Some a) small (fits begun.0))) (either_begins refusal p a xs r ys d)

  pub write_begins_asked : (most n : ℕ) (is_busy : Bool) (a : Single) (r : Result (Unit {0}) Refusal) → Begins (refuse_write most p n is_busy) p a xs r ys
      → (n ≤ most → asked (busy (single_op a)) ≤ bound) → most_asked single_op ys ≤ bound
  write_begins_asked most n is_busy a r d fits = begins_asked (refuse_write most p n is_busy) a r d (λ e. fits (accept_write most p n is_busy e).3)

  pub takes_asked : (o : Option Single) (a : Single) → Takes p o xs (Ok a) ys → most_asked single_op ys ≤ bound
  takes_asked o a d = rw (taken p o xs ys a d).2 (still_asked single_op xs p bound None small (omega arith))
