-- What is read is what was written, pair by pair.
use Rattle.std.proofs.Common.{◌≡◌, ℕ, ◌^◌, ◌<◌, ◌≤◌, Bool, true, false, cond, eqb, leb, List, [], ◌∷◌, ◌++◌, Some, None, Ok, Err, decimal, Option, sym, refl, ap, ◌∙◌, ⊎_elim, arith}
use Rattle.std.proofs.lemmas.Bool.{cond-true, cond-false, cases_Bool, eq-eqb, eqb-true, leb-true, le-leb, and_parts}
use Rattle.std.proofs.lemmas.Fmt.{digits_decimal}
use Rattle.std.specs.Str.{all_ascii_digits}
use Rattle.text.specs.declared.fault.Fault.{Fault}
use Rattle.text.specs.declared.fault.Refusal.TheVariants.{OtherKey, BadValue}
use Rattle.text.specs.Figures.{number, from_low, within}
use Rattle.text.specs.Pairs.{keyed, stops, word, after, Step, fault, or_else, then, pair, gap_at, gap, field, ender}
use Rattle.text.proofs.Answered.{some_inj, cond_some, ok_inj}
use Rattle.text.proofs.Numbers.{own, number_sound, number_complete}
use Rattle.text.proofs.Words.{goes_from}

-- keys
keyed_sound : (ks s t : List ℕ) → keyed ks s ≡ Some t → s ≡ ks ++ (61 ∷ t)
keyed_sound [] [] t e = cc
keyed_sound [] (c ∷ cs) t e = let p = cond_some _ _ _ e in λ i. eqb-true c 61 p.0 i ∷ some_inj p.1 i
keyed_sound (k ∷ ks) [] t e = cc
keyed_sound (k ∷ ks) (c ∷ cs) t e = let p = cond_some _ _ _ e in λ i. eqb-true c k p.0 i ∷ keyed_sound ks cs t p.1 i

keyed_complete : (ks t : List ℕ) → keyed ks (ks ++ (61 ∷ t)) ≡ Some t
keyed_complete [] t = refl
keyed_complete (k ∷ ks) t = cond-true _ _ _ (eq-eqb k k refl) ∙ keyed_complete ks t

-- words
pub word_after : (s : List ℕ) → s ≡ word s ++ after s
word_after [] = refl
word_after (c ∷ cs) = elim (stops c) as (λ b. c ∷ cs ≡ cond b [] (c ∷ word cs) ++ cond b (c ∷ cs) (after cs)) [ true ↦ refl | false ↦ ap (λ l. c ∷ l) (word_after cs) ]

whole_parts : (x : ℕ) (xs : List ℕ) → word (x ∷ xs) ≡ x ∷ xs → (stops x ≡ false) × (word xs ≡ xs)
whole_parts x xs e =
    ⊎_elim
    (λ b. let none : ◌≡◌ {A = List ℕ} [] (x ∷ xs) = sym (cond-true _ _ _ b) ∙ e in let z : ◌≡◌ {A = ℕ} 0 1 = cc in absurd (omega arith))
    (λ b. let some : x ∷ word xs ≡ x ∷ xs = sym (cond-false _ _ _ b) ∙ e in (b, cc))
    (cases_Bool (stops x))

pub word_ends : (w : List ℕ) (c : ℕ) (t : List ℕ) → word w ≡ w → stops c ≡ true → (word (w ++ (c ∷ t)) ≡ w) × (after (w ++ (c ∷ t)) ≡ c ∷ t)
word_ends [] c t h e = (cond-true _ _ _ e, cond-true _ _ _ e)
word_ends (x ∷ xs) c t h e =
    let p = whole_parts x xs h in
    let q = word_ends xs c t p.1 e in
    (cond-false _ _ _ p.0 ∙ ap (λ l. x ∷ l) q.0, cond-false _ _ _ p.0 ∙ q.1)

digits_whole : (w : List ℕ) → all_ascii_digits w ≡ true → word w ≡ w
digits_whole [] h = refl
digits_whole (x ∷ xs) h =
    let p = and_parts _ _ h in
    let q = and_parts (leb 48 x) _ p.0 in
    let low : 48 ≤ x = leb-true 48 x q.0 in
    cond-false _ _ _ (goes_from x (λ e. omega arith) (λ e. omega arith)) ∙ ap (λ l. x ∷ l) (digits_whole xs p.1)

pub decimal_whole : (n : ℕ) → n < 2 ^ 64 → word (decimal n) ≡ decimal n
decimal_whole n h = digits_whole (decimal n) (digits_decimal own n h)

-- numbers
from_low_some : (low : ℕ) (o : Option ℕ) (n : ℕ) → from_low low o ≡ Some n → (o ≡ Some n) × (low ≤ n)
from_low_some low None n e = cc
from_low_some low (Some m) n e =
    let p = cond_some _ _ _ e in
    let same : m ≡ n = some_inj p.1 in
    let h : low ≤ m = leb-true low m p.0 in
    (p.1, omega arith)

pub within_sound : (low most n : ℕ) (w : List ℕ) → most < 2 ^ 64 → within low most w ≡ Some n → (w ≡ decimal n) × (low ≤ n) × (n ≤ most)
unfolding within
within_sound low most n w small e =
    let p = from_low_some low (number most w) n e in
    let q = number_sound most n w small p.0 in
    (q.0, p.1, q.1)

pub within_complete : (low most n : ℕ) → most < 2 ^ 64 → low ≤ n → n ≤ most → within low most (decimal n) ≡ Some n
unfolding within
within_complete low most n small l h = ap (from_low low) (number_complete most n small h) ∙ cond-true _ _ _ (le-leb low n l)

-- steps
pub then_ok : {T U : Type 0} (r : Step T) (k : T → List ℕ → Step U) (y : U × List ℕ) → then r k ≡ Ok y → (v : T) × (t : List ℕ) × (r ≡ Ok (v, t)) × (k v t ≡ Ok y)
unfolding then
then_ok (Ok p) k y e = (p.0, p.1, refl, e)
then_ok (Err f) k y e = cc

-- the same, for a proof that goes on under the step
pub then_on : {T U P : Type 0} (r : Step T) (k : T → List ℕ → Step U) (y : U × List ℕ) → then r k ≡ Ok y → ((v : T) (t : List ℕ) → r ≡ Ok (v, t) → k v t ≡ Ok y → P) → P
unfolding then
then_on (Ok p) k y e on = on p.0 p.1 refl e
then_on (Err f) k y e on = cc

pub then_at : {T U : Type 0} {r : Step T} {v : T} {t : List ℕ} (k : T → List ℕ → Step U) → r ≡ Ok (v, t) → then r k ≡ k v t
unfolding then
then_at k e = ap (λ x. then x k) e

or_else_ok : {T U : Type 0} (o : Option T) (f : Fault) (k : T → Step U) (y : U × List ℕ) → or_else o f k ≡ Ok y → (v : T) × (o ≡ Some v) × (k v ≡ Ok y)
or_else_ok None f k y e = cc
or_else_ok (Some v) f k y e = (v, refl, e)

module _ {T : Type 0} (key : List ℕ) (rule : List ℕ → Option T) where
  pub pair_sound : (s : List ℕ) (v : T) (t : List ℕ) → pair key rule s ≡ Ok (v, t) → (w : List ℕ) × (s ≡ key ++ (61 ∷ (w ++ t))) × (rule w ≡ Some v)
  unfolding pair
  pair_sound s v t e =
      let p = or_else_ok (keyed key s) (fault OtherKey s) (λ x. or_else (rule (word x)) (fault BadValue x) (λ y. Ok (y, after x))) (v, t) e in
      let q = or_else_ok (rule (word p.0)) (fault BadValue p.0) (λ y. Ok (y, after p.0)) (v, t) p.2 in
      let both = ok_inj q.2 in
      let rest : after p.0 ≡ t = ap (λ x. x.1) both in
      (word p.0, keyed_sound key s p.0 p.1 ∙ ap (λ l. key ++ (61 ∷ l)) (word_after p.0 ∙ ap (λ l. word p.0 ++ l) rest), q.1 ∙ ap (λ x. Some x.0) both)

  pub pair_complete : (w : List ℕ) (v : T) (c : ℕ) (t : List ℕ) → rule w ≡ Some v → word w ≡ w → stops c ≡ true → pair key rule (key ++ (61 ∷ (w ++ (c ∷ t)))) ≡ Ok (v, c ∷ t)
  unfolding pair
  pair_complete w v c t is whole e =
      let p = word_ends w c t whole e in
      let s = key ++ (61 ∷ (w ++ (c ∷ t))) in
      ap (λ o. or_else o (fault OtherKey s) (λ x. or_else (rule (word x)) (fault BadValue x) (λ y. Ok (y, after x)))) (keyed_complete key (w ++ (c ∷ t)))
      ∙ ap (λ x. or_else (rule x) (fault BadValue (w ++ (c ∷ t))) (λ y. Ok (y, after (w ++ (c ∷ t))))) p.0
      ∙ ap (λ o. or_else o (fault BadValue (w ++ (c ∷ t))) (λ y. Ok (y, after (w ++ (c ∷ t))))) is
      ∙ ap (λ l. Ok (v, l)) p.1

pub ender_stops : (last : Bool) → stops (ender last) ≡ true
ender_stops true = refl
ender_stops false = refl

gap_at_sound : (last : Bool) (s0 s t : List ℕ) (u : Unit {0}) → gap_at last s0 s ≡ Ok (u, t) → s ≡ ender last ∷ t
gap_at_sound true s0 [] t u e = cc
gap_at_sound false s0 [] t u e = cc
gap_at_sound true s0 (c ∷ cs) t u e =
    ⊎_elim
    (λ b. λ i. eqb-true c 10 b i ∷ ap (λ x. x.1) (ok_inj (sym (cond-true _ _ _ b) ∙ e)) i)
    (λ b. (cc (sym (cond-false _ _ _ b) ∙ e)))
    (cases_Bool (eqb c 10))
gap_at_sound false s0 (c ∷ cs) t u e =
    ⊎_elim
    (λ b. λ i. eqb-true c 32 b i ∷ ap (λ x. x.1) (ok_inj (sym (cond-true _ _ _ b) ∙ e)) i)
    (λ b. (cc (sym (cond-false _ _ _ b) ∙ e)))
    (cases_Bool (eqb c 32))

pub gap_sound : (last : Bool) (s t : List ℕ) (u : Unit {0}) → gap last s ≡ Ok (u, t) → s ≡ ender last ∷ t
unfolding gap
gap_sound last s t u e = gap_at_sound last s s t u e

pub gap_complete : (last : Bool) (t : List ℕ) → gap last (ender last ∷ t) ≡ Ok (tt, t)
unfolding gap
gap_complete true t = refl
gap_complete false t = refl

-- a pair with its end
module _ {T : Type 0} (key : List ℕ) (rule : List ℕ → Option T) (last : T → Bool) where
  pub field_sound : (s : List ℕ) (v : T) (t : List ℕ) → field key rule last s ≡ Ok (v, t) → (w : List ℕ) × (s ≡ key ++ (61 ∷ (w ++ (ender (last v) ∷ t)))) × (rule w ≡ Some v)
  unfolding field then
  field_sound s v t e =
      let p = then_ok (pair key rule s) (λ x y. then (gap (last x) y) (λ _ z. Ok (x, z))) (v, t) e in
      let q = then_ok (gap (last p.0) p.1) (λ _ z. Ok (p.0, z)) (v, t) p.3 in
      let both = ok_inj q.3 in
      let a = pair_sound key rule s p.0 p.1 p.2 in
      let b = gap_sound (last p.0) p.1 q.1 q.0 q.2 in
      (a.0, a.1 ∙ ap (λ l. key ++ (61 ∷ (a.0 ++ l))) (b ∙ ap (λ x. ender (last x.0) ∷ x.1) both), a.2 ∙ ap (λ x. Some x.0) both)

  pub field_complete : (w : List ℕ) (v : T) (t : List ℕ) → rule w ≡ Some v → word w ≡ w → field key rule last (key ++ (61 ∷ (w ++ (ender (last v) ∷ t)))) ≡ Ok (v, t)
  unfolding field then
  field_complete w v t is whole =
      ap (λ r. then r (λ x y. then (gap (last x) y) (λ _ z. Ok (x, z)))) (pair_complete key rule w v (ender (last v)) t is whole (ender_stops (last v)))
      ∙ ap (λ r. then r (λ _ z. Ok (v, z))) (gap_complete (last v) t)
