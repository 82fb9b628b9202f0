-- A written pair is read as it was, and what is read is a written pair: numbers and words.
use Rattle.std.proofs.Common.{◌≡◌, ℕ, ◌^◌, ◌<◌, ◌≤◌, Bool, List, [], ◌∷◌, ◌++◌, Ok, decimal, Option, sym, ap, ◌∙◌, append_assoc, arith}
use Rattle.text.specs.Figures.{within}
use Rattle.text.specs.Pairs.{pair, gap, field, never, ender, Spells}
use Rattle.text.specs.Written.{word_pair, number_pair}
use Rattle.text.proofs.Trips.{ender_stops, decimal_whole, within_sound, within_complete, pair_sound, pair_complete, gap_sound, field_sound, field_complete}

-- a pair before the rest of a text
pub paired : (key w : List ℕ) (end : ℕ) (t : List ℕ) → (key ++ (61 ∷ (w ++ (end ∷ [])))) ++ t ≡ key ++ (61 ∷ (w ++ (end ∷ t)))
paired key w end t = append_assoc key _ t ∙ ap (λ l. key ++ (61 ∷ l)) (append_assoc w (end ∷ []) t)

pub number_sound : (key : List ℕ) (low most : ℕ) (s : List ℕ) (v : ℕ) (t : List ℕ) → most < 2 ^ 64 → field key (within low most) never s ≡ Ok (v, t) → (s ≡ number_pair key v 32 ++ t) × (low ≤ v) × (v ≤ most)
unfolding number_pair
number_sound key low most s v t small e =
    let p = field_sound key (within low most) never s v t e in
    let q = within_sound low most v p.0 small p.2 in
    (p.1 ∙ ap (λ w. key ++ (61 ∷ (w ++ (32 ∷ t)))) q.0 ∙ sym (paired key (decimal v) 32 t), q.1, q.2)

pub number_complete : (key : List ℕ) (low most v : ℕ) (t : List ℕ) → most < 2 ^ 64 → low ≤ v → v ≤ most → field key (within low most) never (number_pair key v 32 ++ t) ≡ Ok (v, t)
unfolding number_pair
number_complete key low most v t small l h =
    ap (field key (within low most) never) (paired key (decimal v) 32 t)
    ∙ field_complete key (within low most) never (decimal v) v t (within_complete low most v small l h) (decimal_whole v (omega arith))

-- a number, and then the end that `last` asks for
pub last_sound : (key : List ℕ) (low most : ℕ) (last : Bool) (s : List ℕ) (v : ℕ) (t u : List ℕ) (x : Unit {0}) → most < 2 ^ 64 → pair key (within low most) s ≡ Ok (v, t) → gap last t ≡ Ok (x, u) → (s ≡ number_pair key v (ender last) ++ u) × (low ≤ v) × (v ≤ most)
unfolding number_pair
last_sound key low most last s v t u x small e f =
    let p = pair_sound key (within low most) s v t e in
    let q = within_sound low most v p.0 small p.2 in
    let r = gap_sound last t u x f in
    (p.1 ∙ (λ i. key ++ (61 ∷ (q.0 i ++ r i))) ∙ sym (paired key (decimal v) (ender last) u), q.1, q.2)

pub last_complete : (key : List ℕ) (low most : ℕ) (last : Bool) (v : ℕ) (u : List ℕ) → most < 2 ^ 64 → low ≤ v → v ≤ most → pair key (within low most) (number_pair key v (ender last) ++ u) ≡ Ok (v, ender last ∷ u)
unfolding number_pair
last_complete key low most last v u small l h =
    ap (pair key (within low most)) (paired key (decimal v) (ender last) u)
    ∙ pair_complete key (within low most) (decimal v) v (ender last) u (within_complete low most v small l h) (decimal_whole v (omega arith)) (ender_stops last)

-- a word of a closed list
module _ {W : Type 0} (key : List ℕ) (spelled : List ℕ → Option W) (text : W → List ℕ) (laws : Spells spelled text) where
  pub word_sound : (s : List ℕ) (v : W) (t : List ℕ) → field key spelled never s ≡ Ok (v, t) → s ≡ word_pair key (text v) 32 ++ t
  unfolding word_pair
  word_sound s v t e =
      let p = field_sound key spelled never s v t e in
      p.1 ∙ ap (λ w. key ++ (61 ∷ (w ++ (32 ∷ t)))) (laws.back p.0 v p.2) ∙ sym (paired key (text v) 32 t)

  pub word_complete : (v : W) (t : List ℕ) → field key spelled never (word_pair key (text v) 32 ++ t) ≡ Ok (v, t)
  unfolding word_pair
  word_complete v t =
      ap (field key spelled never) (paired key (text v) 32 t)
      ∙ field_complete key spelled never (text v) v t (laws.there v) (laws.whole v)

  -- and then the end that `last` asks for
  pub last_word_sound : (last : Bool) (s : List ℕ) (v : W) (t u : List ℕ) (x : Unit {0}) → pair key spelled s ≡ Ok (v, t) → gap last t ≡ Ok (x, u) → s ≡ word_pair key (text v) (ender last) ++ u
  unfolding word_pair
  last_word_sound last s v t u x e f =
      let p = pair_sound key spelled s v t e in
      let r = gap_sound last t u x f in
      p.1 ∙ (λ i. key ++ (61 ∷ (laws.back p.0 v p.2 i ++ r i))) ∙ sym (paired key (text v) (ender last) u)

  pub last_word_complete : (last : Bool) (v : W) (u : List ℕ) → pair key spelled (word_pair key (text v) (ender last) ++ u) ≡ Ok (v, ender last ∷ u)
  unfolding word_pair
  last_word_complete last v u =
      ap (pair key spelled) (paired key (text v) (ender last) u)
      ∙ pair_complete key spelled (text v) v (ender last) u (laws.there v) (laws.whole v) (ender_stops last)
