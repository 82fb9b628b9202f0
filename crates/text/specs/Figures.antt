-- Numbers in base ten without leading zeros.
use Rattle.std.specs.Prelude.{ℕ, ◌+◌, ◌-◌, ◌*◌, cond, ◌&&◌, List, [], ◌∷◌, Some, None, Option, ◌==◌, nat_le}

-- the number that the figures write after n, if it stays at most most
abbrev pub figures : ℕ → ℕ → List ℕ → Option ℕ
figures most n [] = Some n
figures most n (c ∷ cs) = cond (nat_le 48 c && (nat_le c 57 && nat_le (n * 10 + (c - 48)) most)) (figures most (n * 10 + (c - 48)) cs) None

abbrev pub alone : List ℕ → Option ℕ
alone [] = Some 0
alone (c ∷ cs) = None

-- the number that a whole text writes, at most most; a first 0 stands alone
abbrev pub number : ℕ → List ℕ → Option ℕ
number most [] = None
number most (c ∷ cs) = cond (c == 48) (alone cs) (figures most 0 (c ∷ cs))

abbrev pub from_low : ℕ → Option ℕ → Option ℕ
from_low low None = None
from_low low (Some n) = cond (nat_le low n) (Some n) None

-- the number that a whole text writes, from low to most
unfoldable pub within : ℕ → ℕ → List ℕ → Option ℕ
within low most w = from_low low (number most w)
