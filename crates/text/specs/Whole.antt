-- What is asked of a whole text, and where a byte of it lies.
use Rattle.std.specs.Prelude.{◌≡◌, ℕ, ◌+◌, ◌-◌, Bool, true, cond, List, [], ◌∷◌, ◌++◌, length, take, count_by, Ok, Err, Result, ◌==◌, nat_le}
use Rattle.text.specs.declared.fault.Fault.{Fault}
use Rattle.text.specs.declared.fault.PlacedFault.{PlacedFault}
use Rattle.text.specs.declared.fault.Refusal.TheVariants.{TooLong, BadByte, Unended}
use Rattle.text.specs.Bytes.{plain_byte}
use Rattle.text.specs.Pairs.{fault}

-- the last byte, if there is one, is a newline
abbrev pub ended : List ℕ → Bool
ended [] = true
ended (c ∷ []) = c == 10
ended (c ∷ d ∷ cs) = ended (d ∷ cs)

-- the text from its first byte that is not plain
abbrev pub from_bad : List ℕ → List ℕ
from_bad [] = []
from_bad (c ∷ cs) = cond (plain_byte c) (from_bad cs) (c ∷ cs)

-- at most `most` bytes, then plain bytes alone, then a newline at the end
unfoldable pub whole : ℕ → List ℕ → Result (Unit {0}) Fault
whole most s =
    cond (nat_le (length s) most)
    (cond (length (from_bad s) == 0) (cond (ended s) (Ok tt) (Err (fault Unended []))) (Err (fault BadByte (from_bad s))))
    (Err (fault TooLong s))

-- the line and the byte in it that come after some bytes
abbrev pub after_bytes : ℕ → ℕ → List ℕ → ℕ × ℕ
after_bytes line byte [] = (line, byte)
after_bytes line byte (c ∷ cs) = cond (c == 10) (after_bytes (line + 1) 1 cs) (after_bytes line (byte + 1) cs)

-- a fault with the line and the byte, from 1, where it lies
unfoldable pub placed : List ℕ → Fault → PlacedFault
placed s f = let at = after_bytes 1 1 (take (length s - f.left) s) in record { refusal = f.refusal; line = at.0; byte = at.1 }

abbrev pub newlines : List ℕ → ℕ
newlines s = count_by (λ c. c == 10) s

-- a line and a byte, both from 1, that come after these bytes: the newlines say which line, and the bytes of the
-- unfinished line which byte
pub record ComesAfter (front : List ℕ) (line byte : ℕ) : Type 0 where
  pub line_counts : line ≡ newlines front + 1
  pub byte_counts : (lines rest : List ℕ) → front ≡ lines ++ rest → ended lines ≡ true → newlines rest ≡ 0 → byte ≡ length rest + 1
