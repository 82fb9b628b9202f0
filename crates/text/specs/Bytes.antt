-- The bytes that a text may have.
use Rattle.std.specs.Prelude.{ℕ, Bool, true, ◌&&◌, ◌||◌, List, [], ◌∷◌, ◌==◌, nat_le}

-- a newline, or a byte from 32 to 126
abbrev pub plain_byte : ℕ → Bool
plain_byte c = c == 10 || (nat_le 32 c && nat_le c 126)

-- every byte is one
abbrev pub plain_text : List ℕ → Bool
plain_text [] = true
plain_text (c ∷ cs) = plain_byte c && plain_text cs
