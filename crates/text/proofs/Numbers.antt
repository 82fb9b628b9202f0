-- `number` reads just what `decimal` writes.
use Rattle.std.proofs.Common.{◌≡◌, ℕ, ◌+◌, ◌-◌, ◌*◌, ◌^◌, ◌<◌, ◌≤◌, true, eqb, leb, ◌⊎◌, List, [], ◌∷◌, get_or, Some, decimal, sym, refl, ap, ◌∙◌, ⊎_elim, arith, rules}
use Rattle.std.proofs.lemmas.Bool.{cond-true, cond-false, and_from, and_parts, le-leb, leb-true, eqb-true, eqb-false, ne_eqb, cases_Bool}
use Rattle.std.proofs.lemmas.Str.Parse.{IsNumeralModel, numerals_by_fold}
use Rattle.std.proofs.lemmas.Fmt.{digits_decimal, digits_value-decimal, decimal-digits_value, first_decimal, decimal_digit}
use Rattle.std.specs.Str.{all_ascii_digits}
use Rattle.text.specs.Figures.{figures, number, alone}
use Rattle.text.proofs.Answered.{cond_some}

abbrev pub read_on : ℕ → List ℕ → ℕ
read_on n [] = n
read_on n (c ∷ cs) = read_on (n * 10 + (c - 48)) cs

pub own : IsNumeralModel (λ ds. all_ascii_digits ds ≡ true) (read_on 0)
own = numerals_by_fold _ (search rules) read_on (search rules)

read_on_ge : (n : ℕ) (bs : List ℕ) → n ≤ read_on n bs
read_on_ge n [] = omega arith
read_on_ge n (c ∷ cs) = omega (arith, read_on_ge (n * 10 + (c - 48)) cs)

figures_sound : (most n m : ℕ) (bs : List ℕ) → n ≤ most → figures most n bs ≡ Some m → (all_ascii_digits bs ≡ true) × (read_on n bs ≡ m) × (m ≤ most)
figures_sound most n m [] h e = let same : n ≡ m = cc in (refl, same, omega arith)
figures_sound most n m (c ∷ cs) h e =
    let p = cond_some _ _ _ e in
    let q = and_parts (leb 48 c) _ p.0 in
    let r = and_parts (leb c 57) _ q.1 in
    let t = figures_sound most (n * 10 + (c - 48)) m cs (leb-true _ _ r.1) p.1 in
    (and_from _ _ (and_from _ _ q.0 r.0) t.0, t.1, t.2)

figures_complete : (most n : ℕ) (bs : List ℕ) → all_ascii_digits bs ≡ true → read_on n bs ≤ most → figures most n bs ≡ Some (read_on n bs)
figures_complete most n [] d h = refl
figures_complete most n (c ∷ cs) d h =
    let p = and_parts _ _ d in
    let q = and_parts (leb 48 c) _ p.0 in
    let fits : n * 10 + (c - 48) ≤ most = omega (arith, read_on_ge (n * 10 + (c - 48)) cs) in
    cond-true _ _ _ (and_from _ _ q.0 (and_from _ _ q.1 (le-leb _ _ fits)))
    ∙ figures_complete most (n * 10 + (c - 48)) cs p.1 h

alone_sound : (cs : List ℕ) (n : ℕ) → alone cs ≡ Some n → (cs ≡ []) × (n ≡ 0)
alone_sound [] n e = (refl, cc)
alone_sound (c ∷ cs) n e = let z : ◌≡◌ {A = ℕ} 0 1 = cc in absurd (omega arith)

pub number_sound : (most n : ℕ) (bs : List ℕ) → most < 2 ^ 64 → number most bs ≡ Some n → (bs ≡ decimal n) × (n ≤ most)
number_sound most n [] small e = let z : ◌≡◌ {A = ℕ} 0 1 = cc in absurd (omega arith)
number_sound most n (c ∷ cs) small e =
    ⊎_elim
    (λ zero-first.
    let p = alone_sound cs n (sym (cond-true _ _ _ zero-first) ∙ e) in
    let is : c ≡ 48 = eqb-true c 48 zero-first in
    let none : n ≡ 0 = p.1 in
    (ap (λ x. x ∷ cs) is ∙ ap (λ l. 48 ∷ l) p.0 ∙ sym (decimal_digit 0 (omega arith)) ∙ ap decimal (sym none), omega arith))
    (λ other.
    let p = figures_sound most 0 n (c ∷ cs) (omega arith) (sym (cond-false _ _ _ other) ∙ e) in
    let back = decimal-digits_value own (c ∷ cs) p.0 (omega arith) (λ first. absurd (eqb-false c 48 other first)) (omega (arith, p.1, p.2)) in
    (sym back ∙ ap decimal p.1, p.2))
    (cases_Bool (eqb c 48))

number_first : (most n : ℕ) (bs : List ℕ) → 48 < get_or bs 0 0 → number most bs ≡ figures most 0 bs
number_first most n [] h = absurd (omega arith)
number_first most n (c ∷ cs) h = cond-false _ _ _ (ne_eqb c 48 (omega arith))

zero_or : (n : ℕ) → (n ≡ 0) ⊎ (0 < n)
zero_or n = grind arith

pub number_complete : (most n : ℕ) → most < 2 ^ 64 → n ≤ most → number most (decimal n) ≡ Some n
number_complete most n small fits =
    ⊎_elim
    (λ none. ap (λ m. number most (decimal m)) none ∙ ap (number most) (decimal_digit 0 (omega arith)) ∙ ap Some (sym none))
    (λ some.
    let same = digits_value-decimal own n (omega arith) in
    number_first most n (decimal n) (first_decimal n some (omega arith))
    ∙ figures_complete most 0 (decimal n) (digits_decimal own n (omega arith)) (omega (arith, same))
    ∙ ap Some same)
    (zero_or n)
