-- A number's figures, two at a time.
use Rattle.std.proofs.Common.{◌≡◌, ℕ, ◌+◌, ◌/◌, ◌%◌, ◌^◌, ◌<◌, ◌≤◌, [], ◌∷◌, ◌++◌, decimal, ap, ◌∙◌, arith, append_assoc}
use Rattle.std.proofs.lemmas.Fmt.{decimal_digit, decimal_step}
use Rattle.text.specs.Written.{two_figures}

pub decimal_of_two : (n : ℕ) → 10 ≤ n → n < 100 → decimal n ≡ two_figures n
decimal_of_two n low high =
    let first : decimal (n / 10) ≡ (48 + n / 10 % 10) ∷ [] = decimal_digit (n / 10) (omega arith) ∙ ap (λ d. (48 + d) ∷ []) (omega arith) in
    decimal_step n low (omega arith) ∙ ap (λ ds. ds ++ ((48 + n % 10) ∷ [])) first

pub decimal_step_two : (n : ℕ) → 100 ≤ n → n < 2 ^ 64 → decimal n ≡ decimal (n / 100) ++ two_figures n
decimal_step_two n low high =
    let hundredth : n / 10 / 10 ≡ n / 100 = omega arith in
    let first : decimal (n / 10) ≡ decimal (n / 100) ++ ((48 + n / 10 % 10) ∷ []) = decimal_step (n / 10) (omega arith) (omega arith) ∙ ap (λ m. decimal m ++ ((48 + n / 10 % 10) ∷ [])) hundredth in
    decimal_step n (omega arith) high ∙ ap (λ ds. ds ++ ((48 + n % 10) ∷ [])) first ∙ append_assoc (decimal (n / 100)) _ _
