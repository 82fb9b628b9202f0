-- Laws of `from_bad`, `ended` and `after_bytes`.
use Rattle.std.proofs.Common.{◌≡◌, ℕ, suc, ◌+◌, ◌-◌, ◌<◌, true, false, cond, not, eqb, nat_lt, List, [], ◌∷◌, ◌++◌, length, get_or, drop, Some, None, sym, refl, ap, ◌∙◌, arith}
use Rattle.std.proofs.lemmas.Bool.{cond-true, cond_both, ltb-false, and_parts, and_from}
use Rattle.std.proofs.lemmas.List.{drop_all}
use Rattle.std.specs.List.{position, position_or_len}
use Rattle.std.specs.Option.{unwrap_or}
use Rattle.text.specs.Bytes.{plain_byte, plain_text}
use Rattle.text.specs.Whole.{ended, from_bad}

-- the first byte that is not plain
first_bad : (s : List ℕ) → drop (position_or_len (λ c. not (plain_byte c)) s) s ≡ from_bad s
first_bad [] = refl
first_bad (c ∷ cs) =
    let n = position_or_len (λ x. not (plain_byte x)) cs in
    elim (plain_byte c) as (λ b. drop (cond (not (not b)) (1 + n) 0) (c ∷ cs) ≡ cond b (from_bad cs) (c ∷ cs)) [
      | true ↦ (let more : 1 + n ≡ suc n = omega arith in ap (λ k. drop k (c ∷ cs)) more ∙ first_bad cs)
      | false ↦ refl
    ]

pub from_first_bad : (s : List ℕ) → drop (unwrap_or (position (λ c. not (plain_byte c)) s) (length s)) s ≡ from_bad s
from_first_bad s =
    let n = position_or_len (λ c. not (plain_byte c)) s in
    cond_both (nat_lt n (length s)) (Some n) None (λ o. drop (unwrap_or o (length s)) s ≡ from_bad s)
    (λ _. first_bad s)
    (λ out. drop_all (length s) s (omega arith) ∙ sym (drop_all n s (ltb-false _ _ out)) ∙ first_bad s)

pub ended_last : (s : List ℕ) → 0 < length s → eqb (get_or s (length s - 1) 0) 10 ≡ ended s
ended_last [] h = absurd (omega arith)
ended_last (c ∷ []) h = refl
ended_last (c ∷ d ∷ cs) h =
    let down : length (c ∷ d ∷ cs) - 1 ≡ suc (length (d ∷ cs) - 1) = omega arith in
    ap (λ n. eqb (get_or (c ∷ d ∷ cs) n 0) 10) down ∙ ended_last (d ∷ cs) (omega arith)

-- parts that are plain and ended
pub plain_append : (xs ys : List ℕ) → plain_text xs ≡ true → plain_text ys ≡ true → plain_text (xs ++ ys) ≡ true
plain_append [] ys p q = q
plain_append (x ∷ xs) ys p q = let r = and_parts (plain_byte x) _ p in and_from _ _ r.0 (plain_append xs ys r.1 q)

pub ended-append : (xs ys : List ℕ) → ended xs ≡ true → ended ys ≡ true → ended (xs ++ ys) ≡ true
ended-append [] ys p q = q
ended-append (x ∷ []) [] p q = p
ended-append (x ∷ []) (y ∷ ys) p q = q
ended-append (x ∷ w ∷ xs) ys p q = ended-append (w ∷ xs) ys p q

pub ended_newline : (xs : List ℕ) → ended (xs ++ (10 ∷ [])) ≡ true
ended_newline [] = refl
ended_newline (x ∷ []) = refl
ended_newline (x ∷ w ∷ xs) = ended_newline (w ∷ xs)

pub plain_good : (s : List ℕ) → plain_text s ≡ true → length (from_bad s) ≡ 0
plain_good [] p = refl
plain_good (c ∷ cs) p = let r = and_parts (plain_byte c) _ p in ap length (cond-true _ _ _ r.0) ∙ plain_good cs r.1

pub ended_tail : (xs ys : List ℕ) → 0 < length ys → ended ys ≡ true → ended (xs ++ ys) ≡ true
ended_tail [] ys h q = q
ended_tail (x ∷ []) [] h q = absurd (omega arith)
ended_tail (x ∷ []) (y ∷ ys) h q = q
ended_tail (x ∷ w ∷ xs) ys h q = ended_tail (w ∷ xs) ys h q
