use Rattle.std.proofs.Common.{arith}
use Rattle.registers.proofs.Singles.{begins_asked}
use Rattle.registers.proofs.word.WordHeadRegister.begin_read.Goals as goal

pub invariant_of-self-clause-asked : goal.invariant_of-self-clause-asked
invariant_of-self-clause-asked c = begins_asked _ _ c.args.processor 256 c.args.self.now.asked _ _ _ c.begin_read.ensures (λ _. omega arith)
