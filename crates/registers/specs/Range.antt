-- The range: one word R that all share, and an own number for each processor. A read sets the own number to the larger of
-- itself and R, and answers it. A write of n above the own number stores n in both; any other only reads R. Each is one
-- access. R can fall, own numbers cannot.
use Rattle.std.specs.Prelude.{◌≡◌, ℕ, max, cond, List, replicate, Some, None, nat_lt, slice_index, slice_set}
use Rattle.registers.specs.declared.answers.Became.{Became}
use Rattle.registers.specs.declared.answers.Became.TheVariants.{Read, Written}
use Rattle.registers.specs.declared.single.Single as code
use Rattle.registers.specs.declared.single.Single.TheVariants as single
use Rattle.registers.specs.declared.range_state.Range as range
use Rattle.registers.specs.declared.range_state.RangeState as state
use Rattle.registers.specs.Meaning.{Meaning}
use Rattle.registers.specs.Model.{Model, over}
use Rattle.registers.specs.Most.{greatest}
use Rattle.registers.specs.Operations.{at, meaning_of, StepsBy}
use Rattle.registers.specs.Single.{single_op}

abbrev pub own_of : List ℕ → ℕ → ℕ
own_of own p = slice_index own p

-- R and the own numbers after an access of processor p, and what the access says
abbrev pub shared_after : code.Single → (shared own : ℕ) → ℕ
shared_after single.Read shared own = shared
shared_after (single.Write n) shared own = cond (nat_lt own n) n shared

abbrev pub own_after : code.Single → (shared : ℕ) → List ℕ → ℕ → List ℕ
own_after single.Read shared own p = slice_set own p (max (own_of own p) shared)
own_after (single.Write n) shared own p = cond (nat_lt (own_of own p) n) (slice_set own p n) own

abbrev pub range_answer : code.Single → (shared own : ℕ) → Became
range_answer single.Read shared own = Read (max own shared)
range_answer (single.Write n) shared own = Written

abbrev pub range_new : state.RangeState
range_new = record { shared = 1; own = replicate 16 1; operations = replicate 16 None }

abbrev pub range_begun : state.RangeState → ℕ → code.Single → state.RangeState
range_begun w p a = record { shared = w.shared; own = w.own; operations = slice_set w.operations p (Some a) }

abbrev pub range_stepped : state.RangeState → ℕ → code.Single → state.RangeState
range_stepped w p a = record {
  shared = shared_after a w.shared (own_of w.own p);
  own = own_after a w.shared w.own p;
  operations = slice_set w.operations p None;
}

-- a processor's floor is its own number
abbrev pub range_meaning : state.RangeState → Meaning
range_meaning w = meaning_of single_op w.operations (own_of w.own) (greatest w.own)

-- the register by what it holds; `Range` adds what such a state keeps
abbrev pub range_on_state : Model state.RangeState
range_on_state = record {
  stated = record { bound = 256; read = 1; write = 1 };
  meaning = range_meaning;
  sound = λ _. Unit {0};
  starts = λ w. w ≡ range_new;
  reads = λ w p v. v ≡ range_begun w p single.Read;
  writes = λ w p n v. v ≡ range_begun w p (single.Write n);
  steps = λ w p b v. StepsBy (λ a. range_answer a w.shared (own_of w.own p)) (range_stepped w p) (at w.operations p) b v;
}

abbrev pub range_model : Model range.Range
range_model = over (λ x. x.state) range_on_state
