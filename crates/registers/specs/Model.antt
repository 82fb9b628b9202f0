-- A head register as its calls show it, and what they owe to its meaning.
use Rattle.std.specs.Prelude.{◌≡◌, ℕ, ◌+◌, ◌<◌, ◌≤◌, min, max, None, Result, ◌≢◌}
use Rattle.registers.specs.declared.answers.Refusal.{Refusal}
use Rattle.registers.specs.declared.answers.Became.{Became}
use Rattle.registers.specs.declared.answers.Became.TheVariants.{Going, Read, Written}
use Rattle.registers.specs.Meaning.{Meaning, Doing, idle, busy, reading, writing, is_busy, level}
use Rattle.registers.specs.Refusals.{refuse_read, refuse_write, refuse_step, Decided}

-- what a register states of itself: the largest number it can hold, and the most accesses of a read and of a write
pub record Limits : Type 0 where
  pub bound : ℕ
  pub read : ℕ
  pub write : ℕ

-- A register of type S: what it states of itself; what it means; what every register in use keeps (where a type carries
-- its invariant itself, `sound` holds of every value); and what accepted calls make of it: it is new; a processor begins a
-- read, or a write of a number; a processor makes one access.
pub record Model (S : Type 0) : Type 1 where
  pub stated : Limits
  pub meaning : S → Meaning
  pub sound : S → Type 0
  pub starts : S → Type 0
  pub reads : S → ℕ → S → Type 0
  pub writes : S → ℕ → ℕ → S → Type 0
  pub steps : S → ℕ → Became → S → Type 0

-- a register that is known by what f shows of it
abbrev pub over : {S T : Type 0} → (T → S) → Model S → Model T
over f r = record {
  stated = r.stated;
  meaning = λ x. r.meaning (f x);
  sound = λ x. r.sound (f x);
  starts = λ x. r.starts (f x);
  reads = λ x p y. r.reads (f x) p (f y);
  writes = λ x p n y. r.writes (f x) p n (f y);
  steps = λ x p b y. r.steps (f x) p b (f y);
}

-- what a register's constants tell of its stated limits: a count of accesses that does not fit 32 bits is told as the largest that does
pub record Told (stated told : Limits) : Type 0 where
  pub bound : told.bound ≡ stated.bound
  pub read : told.read ≡ min stated.read 4294967295
  pub write : told.write ≡ min stated.write 4294967295

-- the one outcome of each call
module _ {S : Type 0} (r : Model S) where
  abbrev pub Reads : S → ℕ → Result (Unit {0}) Refusal → S → Type 0
  Reads x p answer y = Decided (refuse_read p (is_busy ((r.meaning x).doing p))) (λ _. r.reads x p) x answer y

  abbrev pub Writes : S → ℕ → ℕ → Result (Unit {0}) Refusal → S → Type 0
  Writes x p n answer y = Decided (refuse_write r.stated.bound p n (is_busy ((r.meaning x).doing p))) (λ _. r.writes x p n) x answer y

  abbrev pub Steps : S → ℕ → Result Became Refusal → S → Type 0
  Steps x p answer y = Decided (refuse_step p (is_busy ((r.meaning x).doing p))) (r.steps x p) x answer y

-- a call of processor p lowers no floor and leaves the other processors at what they are doing
pub record Undisturbed (p : ℕ) (m m' : Meaning) : Type 0 where
  pub floors : (q : ℕ) → q < 16 → m.floor q ≤ m'.floor q
  pub others : (q : ℕ) → q < 16 → (q ≢ p) → m'.doing q ≡ m.doing q

pub record New (m : Meaning) : Type 0 where
  pub all_idle : (p : ℕ) → p < 16 → m.doing p ≡ idle
  pub floors_one : (p : ℕ) → p < 16 → m.floor p ≡ 1
  pub ceiling_one : m.ceiling ≡ 1

pub record ReadBegins (p : ℕ) (m m' : Meaning) : Type 0 where
  pub undisturbed : Undisturbed p m m'
  pub begun : m'.doing p ≡ busy (reading 0)
  pub same_ceiling : m'.ceiling ≡ m.ceiling

pub record WriteBegins (p n : ℕ) (m m' : Meaning) : Type 0 where
  pub undisturbed : Undisturbed p m m'
  pub begun : m'.doing p ≡ busy (writing n 0)
  pub raised_ceiling : m'.ceiling ≡ max m.ceiling n

pub record ReadEnds (p a : ℕ) (m m' : Meaning) : Type 0 where
  pub ended : m'.doing p ≡ idle
  pub not_below_floor : m.floor p ≤ a
  pub not_above_ceiling : a ≤ m.ceiling
  pub kept : a ≤ m'.floor p

pub record WriteEnds (p n : ℕ) (m m' : Meaning) : Type 0 where
  pub ended : m'.doing p ≡ idle
  pub kept : n ≤ m'.floor p

-- what an access made of the operation that processor p was at
abbrev pub GoesOn : (p : ℕ) (m m' : Meaning) → Doing → Became → Type 0
GoesOn p m m' idle b = ⊥
GoesOn p m m' (busy (reading k)) Going = m'.doing p ≡ busy (reading (k + 1))
GoesOn p m m' (busy (reading k)) (Read a) = ReadEnds p a m m'
GoesOn p m m' (busy (reading k)) Written = ⊥
GoesOn p m m' (busy (writing n k)) Going = m'.doing p ≡ busy (writing n (k + 1))
GoesOn p m m' (busy (writing n k)) (Read a) = ⊥
GoesOn p m m' (busy (writing n k)) Written = WriteEnds p n m m'

pub record Accesses (p : ℕ) (b : Became) (m m' : Meaning) : Type 0 where
  pub undisturbed : Undisturbed p m m'
  pub same_ceiling : m'.ceiling ≡ m.ceiling
  pub goes_on : GoesOn p m m' (m.doing p) b

-- an operation has made fewer accesses than are stated for its kind
abbrev pub Unspent : Limits → Doing → Type 0
Unspent limits idle = Unit {0}
Unspent limits (busy (reading k)) = k < limits.read
Unspent limits (busy (writing n k)) = k < limits.write

-- The plain meaning: what every head register keeps. Since each access of an operation counts, and none but its own
-- processor's calls change what it is doing, `unspent` says that it ends within the stated accesses.
pub record Plain {S : Type 0} (r : Model S) : Type 0 where
  pub within_bound : (x : S) → r.sound x → (r.meaning x).ceiling ≤ r.stated.bound
  pub below_ceiling : (x : S) → r.sound x → (p : ℕ) → p < 16 → (r.meaning x).floor p ≤ (r.meaning x).ceiling
  pub unspent : (x : S) → r.sound x → (p : ℕ) → p < 16 → Unspent r.stated ((r.meaning x).doing p)
  pub new : (x : S) → r.starts x → New (r.meaning x) × r.sound x
  pub read : (x y : S) (p : ℕ) → r.sound x → refuse_read p (is_busy ((r.meaning x).doing p)) ≡ None → r.reads x p y
      → ReadBegins p (r.meaning x) (r.meaning y) × r.sound y
  pub write : (x y : S) (p n : ℕ) → r.sound x → refuse_write r.stated.bound p n (is_busy ((r.meaning x).doing p)) ≡ None → r.writes x p n y
      → WriteBegins p n (r.meaning x) (r.meaning y) × r.sound y
  pub step : (x y : S) (p : ℕ) (b : Became) → r.sound x → refuse_step p (is_busy ((r.meaning x).doing p)) ≡ None → r.steps x p b y
      → Accesses p b (r.meaning x) (r.meaning y) × r.sound y

-- The strict meaning: the level, the largest of the floors, is the floor of every idle processor.
pub record Strict {S : Type 0} (r : Model S) : Type 0 where
  pub at_rest : (x : S) → r.sound x → (p : ℕ) → p < 16 → (r.meaning x).doing p ≡ idle → (r.meaning x).floor p ≡ level (r.meaning x)
