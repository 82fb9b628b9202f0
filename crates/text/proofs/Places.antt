-- Counting line and byte goes by newlines, and by the bytes of the unfinished line.
use Rattle.std.proofs.Common.{◌≡◌, ℕ, suc, ◌+◌, ◌-◌, ◌<◌, ◌≤◌, true, false, cond, not, eqb, List, [], ◌∷◌, ◌++◌, length, take, reverse, ◌⊎◌, sym, refl, ap, ◌∙◌, inl, inr, ⊎_elim, arith, length-append}
use Rattle.std.proofs.lemmas.Bool.{cases_Bool, cond_both, eqb-true, eqb-false}
use Rattle.std.proofs.lemmas.List.{reverse-append, length-reverse}
use Rattle.std.proofs.lemmas.List.Folds.{position_or_len_push}
use Rattle.std.proofs.lemmas.List.Sums.{sum_by-cons}
use Rattle.std.specs.List.{position_or_len, suffix_len}
use Rattle.text.specs.Whole.{ended, after_bytes, newlines, ComesAfter}

newlines_cons : (c : ℕ) (cs : List ℕ) → newlines (c ∷ cs) ≡ cond (eqb c 10) 1 0 + newlines cs
newlines_cons c cs = sum_by-cons (λ x. cond (eqb x 10) 1 0) c cs

line_of : (line byte : ℕ) (s : List ℕ) → (after_bytes line byte s).0 ≡ line + newlines s
line_of line byte [] = omega arith
line_of line byte (c ∷ cs) =
    rw (newlines_cons c cs)
    (elim (eqb c 10) as (λ b. (cond b (after_bytes (line + 1) 1 cs) (after_bytes line (byte + 1) cs)).0 ≡ line + (cond b 1 0 + newlines cs)) [
      | true ↦ line_of (line + 1) 1 cs ∙ omega arith
      | false ↦ line_of line (byte + 1) cs ∙ omega arith
    ])

-- how many bytes stand behind the last newline
abbrev pub unfinished : List ℕ → ℕ
unfinished s = suffix_len (λ c. not (eqb c 10)) s

-- by whether there is a newline
unfinished_cons : (c : ℕ) (cs : List ℕ) → unfinished (c ∷ cs) ≡ cond (eqb (unfinished cs) (length cs)) (length cs + cond (eqb c 10) 0 1) (unfinished cs)
unfinished_cons c cs =
    ap (position_or_len (λ x. eqb x 10)) (reverse-append (c ∷ []) cs)
    ∙ position_or_len_push (λ x. eqb x 10) (reverse cs) c
    ∙ ap (λ n. cond (eqb (unfinished cs) n) (n + cond (eqb c 10) 0 1) (unfinished cs)) (length-reverse cs)

split : (u l m v : ℕ) → u ≤ l → v ≡ cond (eqb u l) m u → ((u ≡ l) × (v ≡ m)) ⊎ ((u < l) × (v ≡ u))
split u l m v h e =
    cond_both (eqb u l) m u (λ n. v ≡ n → ((u ≡ l) × (v ≡ m)) ⊎ ((u < l) × (v ≡ u)))
    (λ t is. inl (eqb-true u l t, is))
    (λ f is. let other = eqb-false u l f in inr (omega arith, is))
    e

-- the byte that is counted: on from the first one while there is no newline, then the unfinished line's
abbrev Counts : (byte u l b : ℕ) → Type 0
Counts byte u l b = (u ≤ l) × (u ≡ l → b ≡ byte + l) × (u < l → b ≡ u + 1)

counts : (line byte : ℕ) (s : List ℕ) → Counts byte (unfinished s) (length s) (after_bytes line byte s).1
counts line byte [] = (omega arith, λ _. omega arith, λ h. absurd (omega arith))
counts line byte (c ∷ cs) =
    let u = unfinished cs in
    let l = length cs in
    elim (eqb c 10) as (λ b. unfinished (c ∷ cs) ≡ cond (eqb u l) (l + cond b 0 1) u
    → Counts byte (unfinished (c ∷ cs)) (length (c ∷ cs)) (cond b (after_bytes (line + 1) 1 cs) (after_bytes line (byte + 1) cs)).1) [
      | true ↦ λ e.
          let k = counts (line + 1) 1 cs in
          let h = k.0 in
          ⊎_elim (λ p. (omega arith, λ q. absurd (omega arith), λ q. omega (arith, k.1 p.0))) (λ p. (omega arith, λ q. absurd (omega arith), λ q. omega (arith, k.2 p.0))) (split u l (l + 0) _ h e)
      | false ↦ λ e.
          let k = counts line (byte + 1) cs in
          let h = k.0 in
          ⊎_elim (λ p. (omega arith, λ q. omega (arith, k.1 p.0), λ q. absurd (omega arith))) (λ p. (omega arith, λ q. absurd (omega arith), λ q. omega (arith, k.2 p.0))) (split u l (l + 1) _ h e)
    ] (unfinished_cons c cs)

pub unfinished_within : (s : List ℕ) → unfinished s ≤ length s
unfinished_within s = (counts 1 1 s).0

pub located : (s : List ℕ) → (newlines s + 1, unfinished s + 1) ≡ after_bytes 1 1 s
located s =
    let k = counts 1 1 s in
    let h = k.0 in
    let l : newlines s + 1 ≡ (after_bytes 1 1 s).0 = omega (arith, line_of 1 1 s) in
    let b : unfinished s + 1 ≡ (after_bytes 1 1 s).1 =
    ⊎_elim (λ t. let same = eqb-true _ _ t in omega (arith, k.1 same)) (λ f. let other = eqb-false _ _ f in omega (arith, k.2 (omega arith))) (cases_Bool (eqb (unfinished s) (length s))) in
    λ i. (l i, b i)

-- a text that is one unfinished line has no newline,
newlines_none : (s : List ℕ) → unfinished s ≡ length s → newlines s ≡ 0
newlines_none [] e = refl
newlines_none (c ∷ cs) e =
    let within = unfinished_within cs in
    elim (eqb c 10) as (λ b. newlines (c ∷ cs) ≡ cond b 1 0 + newlines cs → unfinished (c ∷ cs) ≡ cond (eqb (unfinished cs) (length cs)) (length cs + cond b 0 1) (unfinished cs) → newlines (c ∷ cs) ≡ 0) [
      | true ↦ λ n v. ⊎_elim (λ p. absurd (omega arith)) (λ p. absurd (omega arith)) (split (unfinished cs) (length cs) (length cs + 0) _ within v)
      | false ↦ λ n v. ⊎_elim (λ p. omega (arith, newlines_none cs p.0)) (λ p. absurd (omega arith)) (split (unfinished cs) (length cs) (length cs + 1) _ within v)
    ] (newlines_cons c cs) (unfinished_cons c cs)

-- so that all newlines stand before the unfinished line
pub newlines_before : (s : List ℕ) → newlines (take (length s - unfinished s) s) ≡ newlines s
newlines_before [] = refl
newlines_before (c ∷ cs) =
    let u = unfinished cs in
    let l = length cs in
    let within = unfinished_within cs in
    let more = newlines_cons c cs in
    ⊎_elim
    (λ p.
    let none = newlines_none cs p.0 in
    elim (eqb c 10) as (λ b. unfinished (c ∷ cs) ≡ l + cond b 0 1 → newlines (c ∷ take 0 cs) ≡ cond b 1 0 + newlines (take 0 cs) → newlines (c ∷ cs) ≡ cond b 1 0 + newlines cs
    → newlines (take (length (c ∷ cs) - unfinished (c ∷ cs)) (c ∷ cs)) ≡ newlines (c ∷ cs)) [
      | true ↦ λ v f n. let k : length (c ∷ cs) - unfinished (c ∷ cs) ≡ 1 = omega arith in ap (λ j. newlines (take j (c ∷ cs))) k ∙ f ∙ omega arith
      | false ↦ λ v f n. let k : length (c ∷ cs) - unfinished (c ∷ cs) ≡ 0 = omega arith in ap (λ j. newlines (take j (c ∷ cs))) k ∙ omega arith
    ] p.1 (newlines_cons c (take 0 cs)) more)
    (λ p.
    let k : length (c ∷ cs) - unfinished (c ∷ cs) ≡ suc (l - u) = omega arith in
    ap (λ j. newlines (take j (c ∷ cs))) k ∙ newlines_cons c (take (l - u) cs) ∙ ap (λ m. cond (eqb c 10) 1 0 + m) (newlines_before cs) ∙ sym more)
    (split u l (l + cond (eqb c 10) 0 1) _ within (unfinished_cons c cs))

-- without a newline all bytes are of one unfinished line,
unfinished_all : (s : List ℕ) → newlines s ≡ 0 → unfinished s ≡ length s
unfinished_all [] none = refl
unfinished_all (c ∷ cs) none =
    let n = newlines_cons c cs in
    let e = unfinished_cons c cs in
    elim (eqb c 10) as (λ b. newlines (c ∷ cs) ≡ cond b 1 0 + newlines cs → unfinished (c ∷ cs) ≡ cond (eqb (unfinished cs) (length cs)) (length cs + cond b 0 1) (unfinished cs) → unfinished (c ∷ cs) ≡ length (c ∷ cs)) [
      | true ↦ λ n e. absurd (omega arith)
      | false ↦ λ n e. let same = unfinished_all cs (omega arith) in ⊎_elim (λ p. omega arith) (λ p. absurd (omega arith)) (split (unfinished cs) (length cs) (length cs + 1) _ (omega arith) e)
    ] n e

-- and behind lines that are ended those behind them
unfinished_tail : (lines rest : List ℕ) → ended lines ≡ true → newlines rest ≡ 0 → unfinished (lines ++ rest) ≡ length rest
unfinished_tail [] rest end none = unfinished_all rest none
unfinished_tail (c ∷ []) rest end none =
    let same = unfinished_all rest none in
    ⊎_elim (λ p. omega arith) (λ p. absurd (omega arith)) (split (unfinished rest) (length rest) (length rest + 0) _ (omega arith) (unfinished_cons c rest ∙ ap (λ b. cond (eqb (unfinished rest) (length rest)) (length rest + cond b 0 1) (unfinished rest)) end))
unfinished_tail (c ∷ d ∷ ds) rest end none =
    let same = unfinished_tail (d ∷ ds) rest end none in
    let all = length-append (d ∷ ds) rest in
    ⊎_elim (λ p. absurd (omega arith)) (λ p. omega arith) (split _ _ _ _ (unfinished_within ((d ∷ ds) ++ rest)) (unfinished_cons c ((d ∷ ds) ++ rest)))

pub comes_after : (front : List ℕ) (at : ℕ × ℕ) → at ≡ after_bytes 1 1 front → ComesAfter front at.0 at.1
comes_after front at is =
    let both = is ∙ sym (located front) in
    record {
      line_counts = ap (λ p. p.0) both;
      byte_counts = λ lines rest e end none. ap (λ p. p.1) both ∙ ap (λ s. unfinished s + 1) e ∙ ap (λ n. n + 1) (unfinished_tail lines rest end none);
    }
