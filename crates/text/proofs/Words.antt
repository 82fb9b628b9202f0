-- Laws of `keyed`, `word`, `after`, `pair` and `gap`.
use Rattle.std.proofs.Common.{◌≡◌, ℕ, ◌+◌, ◌≤◌, Bool, true, false, cond, ◌&&◌, not, nat_eq, nat_lt, List, [], ◌∷◌, length, take, drop, Some, None, Ok, Err, Option, Bor, sym, refl, ap, ◌∙◌, arith}
use Rattle.std.specs.Cmp.Lexicographic.{pointwise}
use Rattle.std.specs.List.{position, position_or_len}
use Rattle.std.specs.Option.{MatchOption, option_map, unwrap_or}
use Rattle.std.proofs.lemmas.Bool.{cond-true, cond-false, true≢false, false≢true, ne_eqb, or_from, cond_both, ltb-false}
use Rattle.text.specs.declared.fault.Refusal.TheVariants.{OtherKey, BadValue, Surplus}
use Rattle.text.specs.Pairs.{keyed, stops, word, after, fault, pair, gap_at, gap, ender}

-- whether a text starts with a key
unfoldable starts : List ℕ → List ℕ → Bool
starts key s = pointwise nat_eq (take (length key) s) key

keyed_start : (key s : List ℕ) → keyed key s ≡ cond (starts key s) (keyed [] (drop (length key) s)) None
unfolding starts
keyed_start [] s = refl
keyed_start (k ∷ ks) [] = refl
keyed_start (k ∷ ks) (c ∷ cs) = elim (nat_eq c k) as (λ b. cond b (keyed ks cs) None ≡ cond (b && starts ks cs) (keyed [] (drop (length ks) cs)) None) [ true ↦ keyed_start ks cs | false ↦ refl ]

pub keyed_unstarted : (key s : List ℕ) → pointwise nat_eq (take (length key) s) key ≡ false → keyed key s ≡ None
unfolding starts
keyed_unstarted key s e = keyed_start key s ∙ cond-false _ _ _ e

equal_sign : (s : List ℕ) (o : Option (Bor (List ℕ)))
    → MatchOption o (pointwise nat_eq (take 1 s) (61 ∷ []) ≡ false) (λ x. (pointwise nat_eq (take 1 s) (61 ∷ []) ≡ true) × (x.now ≡ drop 1 s) × (length x.now + 1 ≡ length s))
    → option_map (λ x. x.now) o ≡ keyed [] s
equal_sign [] None e = refl
equal_sign [] (Some x) e = absurd (false≢true e.0)
equal_sign (c ∷ cs) None e =
    elim (nat_eq c 61) as (λ b. b && true ≡ false → ◌≡◌ {A = Option (List ℕ)} None (cond b (Some cs) None)) [ true ↦ λ f. absurd (true≢false f) | false ↦ λ f. refl ] e
equal_sign (c ∷ cs) (Some x) e =
    elim (nat_eq c 61) as (λ b. b && true ≡ true → Some x.now ≡ cond b (Some cs) None) [ true ↦ λ f. ap Some e.1 | false ↦ λ f. absurd (false≢true f) ] e.0

pub keyed_started : (key s t : List ℕ) (o : Option (Bor (List ℕ))) → pointwise nat_eq (take (length key) s) key ≡ true → t ≡ drop (length key) s
    → MatchOption o (pointwise nat_eq (take 1 t) (61 ∷ []) ≡ false) (λ x. (pointwise nat_eq (take 1 t) (61 ∷ []) ≡ true) × (x.now ≡ drop 1 t) × (length x.now + 1 ≡ length t))
    → option_map (λ x. x.now) o ≡ keyed key s
unfolding starts
keyed_started key s t o e rest m = equal_sign t o m ∙ ap (keyed []) rest ∙ sym (keyed_start key s ∙ cond-true _ _ _ e)

pub goes_from : (c : ℕ) → (c ≡ 10 → ⊥) → (c ≡ 32 → ⊥) → stops c ≡ false
goes_from c a b = or_from _ _ (ne_eqb c 10 a) (ne_eqb c 32 b)

pub word_within : (s : List ℕ) → length (word s) ≤ length s
word_within [] = omega arith
word_within (c ∷ cs) = elim (stops c) as (λ b. length (cond b [] (c ∷ word cs)) ≤ length (c ∷ cs)) [ true ↦ omega arith | false ↦ omega (arith, word_within cs) ]

-- the word ends where the first space or newline stands
word_len : (s : List ℕ) → position_or_len stops s ≡ length (word s)
word_len [] = refl
word_len (c ∷ cs) = elim (stops c) as (λ b. cond (not b) (1 + position_or_len stops cs) 0 ≡ length (cond b [] (c ∷ word cs))) [ true ↦ refl | false ↦ omega (arith, word_len cs) ]

pub word_end : (s : List ℕ) → unwrap_or (position stops s) (length s) ≡ length (word s)
word_end s =
    cond_both (nat_lt (position_or_len stops s) (length s)) (Some (position_or_len stops s)) None (λ o. unwrap_or o (length s) ≡ length (word s))
    (λ _. word_len s)
    (λ out. let past = ltb-false _ _ out in omega (arith, word_len s, word_within s))

-- the word and the rest, by the word's length
pub word_take : (s : List ℕ) → take (length (word s)) s ≡ word s
word_take [] = refl
word_take (c ∷ cs) =
    elim (stops c) as (λ b. take (length (cond b [] (c ∷ word cs))) (c ∷ cs) ≡ cond b [] (c ∷ word cs)) [ true ↦ refl | false ↦ ap (λ l. c ∷ l) (word_take cs) ]

pub after_drop : (s : List ℕ) → drop (length (word s)) s ≡ after s
after_drop [] = refl
after_drop (c ∷ cs) =
    elim (stops c) as (λ b. drop (length (cond b [] (c ∷ word cs))) (c ∷ cs) ≡ cond b (c ∷ cs) (after cs)) [ true ↦ refl | false ↦ after_drop cs ]

module _ {T : Type 0} (key : List ℕ) (rule : List ℕ → Option T) (s : List ℕ) where
  pub pair_unkeyed : keyed key s ≡ None → pair key rule s ≡ Err (fault OtherKey s)
  unfolding pair
  pair_unkeyed e = rw e

  pub pair_unread : (t : List ℕ) → keyed key s ≡ Some t → rule (word t) ≡ None → pair key rule s ≡ Err (fault BadValue t)
  unfolding pair
  pair_unread t e f = rw (e, f)

  pub pair_read : (t : List ℕ) (v : T) → keyed key s ≡ Some t → rule (word t) ≡ Some v → pair key rule s ≡ Ok (v, after t)
  unfolding pair
  pair_read t v e f = rw (e, f)

pub gap_none : (last : Bool) (s : List ℕ) → length s ≡ 0 → gap last s ≡ Err (fault OtherKey s)
unfolding gap
gap_none last [] none = refl
gap_none last (c ∷ cs) none = absurd (omega arith)

-- another byte than the one that ends the pair
pub gap_other : (last wanted : Bool) (c : ℕ) (s : List ℕ) → last ≡ wanted → {t : List ℕ} → s ≡ c ∷ t → (c ≡ ender last → ⊥) → gap last s ≡ Err (fault (cond wanted Surplus OtherKey) s)
unfolding gap
gap_other true true c s same e other = ap (gap_at true s) e ∙ cond-false _ _ _ (ne_eqb c 10 other)
gap_other false false c s same e other = ap (gap_at false s) e ∙ cond-false _ _ _ (ne_eqb c 32 other)
gap_other true false c s same e other = absurd (true≢false same)
gap_other false true c s same e other = absurd (true≢false (sym same))
