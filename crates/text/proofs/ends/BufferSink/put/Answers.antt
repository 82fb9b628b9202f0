use Rattle.std.proofs.Common.{refl, arith, length-set}
use Rattle.text.specs.WrittenLaws.{written_one}
use Rattle.text.proofs.ends.BufferSink.put.Goals as goal

pub returns-then-self : goal.returns-then-self
returns-then-self g c = record { same = refl; long = length-set _ _ _; place = λ h. refl; bytes = λ h. written_one _ _ _ (omega arith) }
