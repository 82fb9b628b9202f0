-- Pairs that are written have plain bytes alone, and a last pair ends with a newline.
use Rattle.std.proofs.Common.{◌≡◌, ℕ, ◌^◌, ◌<◌, ◌≤◌, true, eqb, leb, List, [], ◌∷◌, ◌++◌, length, decimal, refl, arith, length-append}
use Rattle.std.proofs.lemmas.Fmt.{digits_decimal}
use Rattle.std.proofs.lemmas.Bool.{le-leb, leb-true, and_from, and_parts, or_right}
use Rattle.std.specs.Str.{all_ascii_digits}
use Rattle.text.specs.Bytes.{plain_byte, plain_text}
use Rattle.text.specs.Whole.{ended}
use Rattle.text.specs.Written.{word_pair, number_pair}
use Rattle.text.proofs.Numbers.{own}
use Rattle.text.proofs.Wholes.{plain_append, ended_newline, ended_tail}

-- bytes of words and numbers
pub between_plain : (c : ℕ) → 32 ≤ c → c ≤ 126 → plain_byte c ≡ true
between_plain c l h = or_right (eqb c 10) _ (and_from _ _ (le-leb 32 c l) (le-leb c 126 h))

digits_plain : (w : List ℕ) → all_ascii_digits w ≡ true → plain_text w ≡ true
digits_plain [] h = refl
digits_plain (x ∷ xs) h =
    let p = and_parts _ _ h in
    let q = and_parts (leb 48 x) _ p.0 in
    and_from _ _ (between_plain x (omega (arith, leb-true 48 x q.0)) (omega (arith, leb-true x 57 q.1))) (digits_plain xs p.1)

-- a text of plain bytes
pub record Plain (bs : List ℕ) : Type 0 where
  pub is : plain_text bs ≡ true

pub both : {xs ys : List ℕ} → Plain xs → Plain ys → Plain (xs ++ ys)
both {xs = xs} {ys = ys} a b = record { is = plain_append xs ys a.is b.is }

pair_plain : (key w : List ℕ) (end : ℕ) → plain_text key ≡ true → plain_text w ≡ true → plain_byte end ≡ true → plain_text (key ++ (61 ∷ (w ++ (end ∷ [])))) ≡ true
pair_plain key w end a b c = plain_append key _ a (plain_append w (end ∷ []) b (and_from (plain_byte end) true c refl))

pub word_plain : (key w : List ℕ) (end : ℕ) → plain_text key ≡ true → plain_text w ≡ true → plain_byte end ≡ true → Plain (word_pair key w end)
unfolding word_pair
word_plain key w end a b c = record { is = pair_plain key w end a b c }

pub number_plain : (key : List ℕ) (n end : ℕ) → n < 2 ^ 64 → plain_text key ≡ true → plain_byte end ≡ true → Plain (number_pair key n end)
unfolding number_pair
number_plain key n end small a c = record { is = pair_plain key (decimal n) end a (digits_plain (decimal n) (digits_decimal own n small)) c }

-- a line ends
pub pair_some : (key w : List ℕ) (end : ℕ) → 0 < length (key ++ (61 ∷ (w ++ (end ∷ []))))
pair_some key w end = omega (arith, length-append key (61 ∷ (w ++ (end ∷ []))))

pub number_some : (key : List ℕ) (n end : ℕ) → 0 < length (number_pair key n end)
unfolding number_pair
number_some key n end = pair_some key (decimal n) end

pub pair_ended : (key w : List ℕ) → ended (key ++ (61 ∷ (w ++ (10 ∷ [])))) ≡ true
pair_ended key w = ended_tail key _ (omega arith) (ended_newline (61 ∷ w))

pub number_ended : (key : List ℕ) (n : ℕ) → ended (number_pair key n 10) ≡ true
unfolding number_pair
number_ended key n = pair_ended key (decimal n)

pub some_after : (xs ys : List ℕ) → 0 < length ys → 0 < length (xs ++ ys)
some_after xs ys h = omega (arith, length-append xs ys)
