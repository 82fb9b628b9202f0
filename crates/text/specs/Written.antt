-- What is written: pairs, and what a write leaves in a buffer.
use Rattle.std.specs.Prelude.{ℕ, ◌+◌, ◌/◌, ◌%◌, List, [], ◌∷◌, ◌++◌, length, take, drop, decimal}

-- the buffer with bs from `at` on, and else as it was
unfoldable pub written : {X : Type 0} → List X → ℕ → List X → List X
written out at bs = take at out ++ (bs ++ drop (at + length bs) out)

-- the last two figures of a number
abbrev pub two_figures : ℕ → List ℕ
two_figures n = (48 + n / 10 % 10) ∷ (48 + n % 10) ∷ []

-- a pair with the byte that ends it
unfoldable pub word_pair : List ℕ → List ℕ → ℕ → List ℕ
word_pair key value end = key ++ (61 ∷ (value ++ (end ∷ [])))

unfoldable pub number_pair : List ℕ → ℕ → ℕ → List ℕ
number_pair key n end = key ++ (61 ∷ (decimal n ++ (end ∷ [])))
