-- Which refusal a call gets, if any: 13 is looked for first, then 14 or 16, then 15. A refused call alters nothing.
use Rattle.std.specs.Prelude.{◌≡◌, ℕ, Bool, cond, Some, None, Ok, Err, Option, Result, nat_lt}
use Rattle.registers.specs.declared.answers.Refusal.{Refusal}
use Rattle.registers.specs.declared.answers.Refusal.TheVariants.{NoSuchProcessor, Busy, OutOfRange, Idle}

-- by the processor, and whether it is busy
abbrev pub refuse_read : ℕ → Bool → Option Refusal
refuse_read p busy = cond (nat_lt 15 p) (Some NoSuchProcessor) (cond busy (Some Busy) None)

abbrev pub refuse_write : (bound p n : ℕ) → Bool → Option Refusal
refuse_write bound p n busy =
    cond (nat_lt 15 p) (Some NoSuchProcessor) (cond busy (Some Busy) (cond (nat_lt n 1) (Some OutOfRange) (cond (nat_lt bound n) (Some OutOfRange) None)))

abbrev pub refuse_step : ℕ → Bool → Option Refusal
refuse_step p busy = cond (nat_lt 15 p) (Some NoSuchProcessor) (cond busy None (Some Idle))

-- a refused call answers its refusal and leaves the register as it was; an accepted one answers in its own way
abbrev pub Decided : {S T : Type 0} → Option Refusal → (T → S → Type 0) → S → Result T Refusal → S → Type 0
Decided (Some e) accepted x r y = (r ≡ Err e) × (y ≡ x)
Decided None accepted x (Ok v) y = accepted v y
Decided None accepted x (Err e) y = ⊥
