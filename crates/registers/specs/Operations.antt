-- Registers that keep for each processor the operation that it is at. What such an operation means, in accesses so far, is
-- the register's own affair: it is the parameter `op`.
use Rattle.std.specs.Prelude.{◌≡◌, ℕ, max, cond, List, is_some, Some, None, Ok, Err, Option, Result, nat_lt, ok_or, slice_index_or, slice_set}
use Rattle.registers.specs.declared.answers.Became.{Became}
use Rattle.registers.specs.declared.answers.Refusal.{Refusal}
use Rattle.registers.specs.declared.answers.Refusal.TheVariants.{NoSuchProcessor, Idle}
use Rattle.registers.specs.Meaning.{Meaning, Operation, Doing, idle, busy, asked}
use Rattle.registers.specs.Most.{most}
use Rattle.registers.specs.Refusals.{Decided, refuse_step}

-- the operation of processor p
abbrev pub at : {A : Type 0} → List (Option A) → ℕ → Option A
at ops p = slice_index_or ops p None

-- what a check answers: its refusal, or that the call may go on
abbrev pub checked : Option Refusal → Result (Unit {0}) Refusal
checked (Some e) = Err e
checked None = Ok tt

-- what a processor is at, or that there is no such processor
abbrev pub operation_gives : {A : Type 0} → ℕ → A → Result A Refusal
operation_gives p a = cond (nat_lt 15 p) (Err NoSuchProcessor) (Ok a)

-- the operation that a step goes on with, or its refusal
abbrev pub under_way : {A : Type 0} → ℕ → Option A → Result A Refusal
under_way p o = cond (nat_lt 15 p) (Err NoSuchProcessor) (ok_or o Idle)

-- processor p has begun an operation, or the call is refused
abbrev pub Begins : {A : Type 0} → Option Refusal → ℕ → A → List (Option A) → Result (Unit {0}) Refusal → List (Option A) → Type 0
Begins refusal p a xs = Decided refusal (λ _ ys. ys ≡ slice_set xs p (Some a)) xs

-- processor p, which was at o, has given its operation out and is idle, or the call is refused
abbrev pub Takes : {A : Type 0} → ℕ → Option A → List (Option A) → Result A Refusal → List (Option A) → Type 0
Takes p o xs = Decided (refuse_step p (is_some o)) (λ a ys. (o ≡ Some a) × (ys ≡ slice_set xs p None)) xs

-- the step of a processor that is at o: it says and leaves what the operation's access does
abbrev pub StepsBy : {A S : Type 0} → (answer : A → Became) → (after : A → S) → Option A → Became → S → Type 0
StepsBy answer after None b v = ⊥
StepsBy answer after (Some a) b v = (b ≡ answer a) × (v ≡ after a)

module _ {A : Type 0} (op : A → Operation) where
  abbrev pub doing_of : Option A → Doing
  doing_of None = idle
  doing_of (Some a) = busy (op a)

  -- the largest number that is being written
  abbrev pub most_asked : List (Option A) → ℕ
  most_asked ops = most (λ o. asked (doing_of o)) ops

  -- the meaning of a register with these floors that holds a number: no read can exceed it, or what is being written
  abbrev pub meaning_of : List (Option A) → (floor : ℕ → ℕ) → (held : ℕ) → Meaning
  meaning_of ops floor held = record { doing = λ p. doing_of (at ops p); floor = floor; ceiling = max held (most_asked ops) }
