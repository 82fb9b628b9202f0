-- Runs of a register: accepted calls of any processors, in any order, one after the other. Refused calls leave a register
-- as it was, so a run does not show them.
use Rattle.std.specs.Prelude.{ℕ, ◌+◌, ◌<◌, cond, List, [], ◌∷◌, Ok, ◌==◌}
use Rattle.registers.specs.declared.answers.Became.{Became}
use Rattle.registers.specs.Meaning.{Doing, idle, busy, reading, writing}
use Rattle.registers.specs.Model.{Limits, Model, Reads, Writes, Steps}

pub data Event : Type 0 where
  began_read : ℕ → Event
  began_write : ℕ → ℕ → Event
  accessed : ℕ → Became → Event

-- from one register, by these events in their order, to another
pub data Run {S : Type 0} (r : Model S) : S → List Event → S → Type 0 where
  done : {x : S} → Run r x [] x
  read : {x y z : S} {es : List Event} (p : ℕ) → Reads r x p (Ok tt) y → Run r y es z → Run r x (began_read p ∷ es) z
  write : {x y z : S} {es : List Event} (p n : ℕ) → Writes r x p n (Ok tt) y → Run r y es z → Run r x (began_write p n ∷ es) z
  access : {x y z : S} {es : List Event} (p : ℕ) (b : Became) → Steps r x p (Ok b) y → Run r y es z → Run r x (accessed p b ∷ es) z

-- the accesses of processor p since it last began, where it had made k before the events
abbrev pub own_accesses : ℕ → ℕ → List Event → ℕ
own_accesses p k [] = k
own_accesses p k (began_read q ∷ es) = own_accesses p (cond (q == p) 0 k) es
own_accesses p k (began_write q n ∷ es) = own_accesses p (cond (q == p) 0 k) es
own_accesses p k (accessed q b ∷ es) = own_accesses p (cond (q == p) (k + 1) k) es

-- an operation under way has made fewer than the stated accesses
abbrev pub Within : Limits → Doing → ℕ → Type 0
Within limits idle k = Unit {0}
Within limits (busy (reading _)) k = k < limits.read
Within limits (busy (writing n _)) k = k < limits.write

-- In every run of a new register, whatever the other processors do or leave undone, an operation that is still under way
-- has made fewer accesses of its own than are stated; so it has ended when it has made that many.
abbrev pub EndsInTime : {S : Type 0} → Model S → Type 0
EndsInTime {S} r = (x y : S) (es : List Event) → r.starts x → Run r x es y → (p : ℕ) → p < 16 → Within r.stated ((r.meaning y).doing p) (own_accesses p 0 es)
