-- The word: one number. A read answers it; a write of n stores the larger of it and n. Each is one access.
use Rattle.std.specs.Prelude.{◌≡◌, ℕ, max, replicate, Some, None, slice_set}
use Rattle.registers.specs.declared.answers.Became.{Became}
use Rattle.registers.specs.declared.answers.Became.TheVariants.{Read, Written}
use Rattle.registers.specs.declared.single.Single as code
use Rattle.registers.specs.declared.single.Single.TheVariants as single
use Rattle.registers.specs.declared.word_state.Word as word
use Rattle.registers.specs.declared.word_state.WordState as state
use Rattle.registers.specs.Meaning.{Meaning}
use Rattle.registers.specs.Model.{Model, over}
use Rattle.registers.specs.Operations.{at, meaning_of, StepsBy}
use Rattle.registers.specs.Single.{single_op}

-- the number after an access, and what the access says
abbrev pub number_after : code.Single → ℕ → ℕ
number_after single.Read number = number
number_after (single.Write n) number = max number n

abbrev pub word_answer : code.Single → ℕ → Became
word_answer single.Read number = Read number
word_answer (single.Write n) number = Written

abbrev pub word_new : state.WordState
word_new = record { number = 1; operations = replicate 16 None }

abbrev pub word_begun : state.WordState → ℕ → code.Single → state.WordState
word_begun w p a = record { number = w.number; operations = slice_set w.operations p (Some a) }

abbrev pub word_stepped : state.WordState → ℕ → code.Single → state.WordState
word_stepped w p a = record { number = number_after a w.number; operations = slice_set w.operations p None }

-- every processor's floor is the number
abbrev pub word_meaning : state.WordState → Meaning
word_meaning w = meaning_of single_op w.operations (λ _. w.number) w.number

-- the register by what it holds; `Word` adds what such a state keeps
abbrev pub word_on_state : Model state.WordState
word_on_state = record {
  stated = record { bound = 256; read = 1; write = 1 };
  meaning = word_meaning;
  sound = λ _. Unit {0};
  starts = λ w. w ≡ word_new;
  reads = λ w p v. v ≡ word_begun w p single.Read;
  writes = λ w p n v. v ≡ word_begun w p (single.Write n);
  steps = λ w p b v. StepsBy (λ a. word_answer a w.number) (word_stepped w p) (at w.operations p) b v;
}

abbrev pub word_model : Model word.Word
word_model = over (λ x. x.state) word_on_state
