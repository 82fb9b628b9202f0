-- The spaces after the number of a processor, and how long its lane is.
use Rattle.std.proofs.Common.{◌≡◌, ℕ, ◌+◌, ◌-◌, ◌/◌, ◌^◌, ◌<◌, ◌≤◌, List, [], ◌∷◌, length, replicate, decimal, ap, ◌∙◌, arith, length-append}
use lib.ListN.{length-replicate}
use Rattle.std.proofs.lemmas.List.FromFn.{length-map-range_with_len}
use Rattle.std.proofs.lemmas.Fmt.{decimal_digit, decimal_step, decimal_nonempty, length-decimal-le}
use Rattle.entries.specs.declared.entry.Entry.{Entry}
use Rattle.lanes.specs.Lane.{padding, cells, lane_text}
use Rattle.lanes.specs.declared.scale.Scale.{Scale}

more_digits : (p : ℕ) → 10 ≤ p → p < 2 ^ 64 → length (decimal p) ≡ length (decimal (p / 10)) + 1
more_digits p h fits = ap length (decimal_step p h fits) ∙ length-append (decimal (p / 10)) _

pub padding_two : (p : ℕ) → p < 10 → padding p ≡ 32 ∷ 32 ∷ []
unfolding padding
padding_two p h = rw (decimal_digit p h)

pub padding_one : (p : ℕ) → 10 ≤ p → p < 100 → padding p ≡ 32 ∷ []
unfolding padding
padding_one p h k = rw (decimal_step p h (omega arith), decimal_digit (p / 10) (omega arith))

pub padding_none : (p : ℕ) → 100 ≤ p → p < 2 ^ 64 → padding p ≡ []
unfolding padding
padding_none p h fits =
    let long = more_digits p (omega arith) fits in
    let longer = more_digits (p / 10) (omega arith) (omega arith) in
    let none : 3 - length (decimal p) ≡ 0 = omega (arith, decimal_nonempty (p / 10 / 10) (omega arith)) in
    ap (λ m. replicate m 32) none

-- the number of a processor and its spaces are three bytes
padded : (p : ℕ) → p < 1000 → length (decimal p) + length (padding p) ≡ 3
unfolding padding
padded p h = omega (arith, length-replicate {A = ℕ} (3 - length (decimal p)) 32, length-decimal-le 3 p (omega arith) h (omega arith))

pub length-lane : (scale : Scale) (es : List Entry) (p : ℕ) → p < 1000 → length (lane_text scale es p) ≡ scale.columns + 11
unfolding lane_text cells
length-lane scale es p h = simp (length-append, length-map-range_with_len) (omega (arith, padded p h))
