-- A closed list of values, each with a word of its own.
use Rattle.std.specs.Prelude.{◌≡◌, ℕ, true, List, Some, Option}
use Rattle.std.specs.List.{find}
use Rattle.std.specs.Str.{bytes_eq}
use Rattle.text.specs.Bytes.{plain_text}
use Rattle.text.specs.Pairs.{word}

-- the value of a word
abbrev pub spelled : {W : Type 0} → List W → (W → List ℕ) → List ℕ → Option W
spelled values text w = find (λ x. bytes_eq w (text x)) values

-- what such a list owes: each value's word is its own, of plain bytes without a space or a newline
pub record Words {W : Type 0} (values : List W) (text : W → List ℕ) : Type 0 where
  pub own : (x : W) → spelled values text (text x) ≡ Some x
  pub whole : (x : W) → word (text x) ≡ text x
  pub plain : (x : W) → plain_text (text x) ≡ true
