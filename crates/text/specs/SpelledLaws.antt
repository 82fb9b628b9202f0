-- A word that spells a value of a closed list is that value's word.
use Rattle.std.specs.Prelude.{◌≡◌, ℕ, Bool, true, false, cond, List, [], ◌∷◌, Some, Option, refl}
use Rattle.std.proofs.Common.{ap, ◌∙◌}
use Rattle.std.proofs.lemmas.Slice.Eq.{bytes_eq-Decides}
use Rattle.std.specs.Str.{bytes_eq}
use Rattle.text.specs.Pairs.{Spells}
use Rattle.text.specs.Spelled.{spelled, Words}

module _ {W : Type 0} (text : W → List ℕ) (w : List ℕ) (x : W) where
  one : (b : Bool) (v : W) (o : Option W) → (b ≡ true → w ≡ text v) → (o ≡ Some x → w ≡ text x) → cond b (Some v) o ≡ Some x → w ≡ text x
  one true v o this others e = let same : v ≡ x = cc in this refl ∙ ap text same
  one false v o this others e = others e

  spelled_back : (values : List W) → spelled values text w ≡ Some x → w ≡ text x
  spelled_back [] e = cc
  spelled_back (v ∷ vs) e = one (bytes_eq w (text v)) v (spelled vs text w) ((bytes_eq-Decides w (text v)).0) (spelled_back vs) e

pub spells : {W : Type 0} {values : List W} {text : W → List ℕ} → Words values text → Spells (spelled values text) text
spells {values = values} {text = text} words = record { there = words.own; back = λ w x e. spelled_back text w x values e; whole = words.whole; plain = words.plain }
