-- What a head register means to its processors: what each is doing, a floor for each, and one ceiling. A processor's floor
-- is a number that its reads cannot fall below any more; the ceiling is one that no read can exceed.
use Rattle.std.specs.Prelude.{ℕ, zero, suc, max, Bool, true, false}

-- an operation under way, with its accesses so far; a write has the number that it writes first
pub data Operation : Type 0 where
  reading : ℕ → Operation
  writing : ℕ → ℕ → Operation

-- what a processor is doing
pub data Doing : Type 0 where
  idle : Doing
  busy : Operation → Doing

pub record Meaning : Type 0 where
  pub doing : ℕ → Doing
  pub floor : ℕ → ℕ
  pub ceiling : ℕ

abbrev pub is_busy : Doing → Bool
is_busy idle = false
is_busy (busy o) = true

-- the number that is being written, or 0
abbrev pub asked : Doing → ℕ
asked idle = 0
asked (busy (reading k)) = 0
asked (busy (writing n k)) = n

-- the largest of f over 0 to n - 1
unfoldable pub largest : ℕ → (ℕ → ℕ) → ℕ
largest zero f = 0
largest (suc n) f = max (f n) (largest n f)

-- the largest floor of the sixteen processors
abbrev pub level : Meaning → ℕ
level m = largest 16 m.floor
