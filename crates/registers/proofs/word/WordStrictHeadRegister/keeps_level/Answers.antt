use Rattle.std.proofs.Common.{arith}
use Rattle.registers.specs.Word.{word_meaning}
use Rattle.registers.proofs.Levels.{level_is}
use Rattle.registers.proofs.word.WordStrictHeadRegister.keeps_level.Goals as goal

pub returns : goal.returns
returns c = record { at_rest = λ x _ p h _. level_is (word_meaning x.state) p h (λ _ _. omega arith) }
