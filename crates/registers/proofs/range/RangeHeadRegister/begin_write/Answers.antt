use Rattle.std.proofs.Common.{arith}
use Rattle.registers.proofs.Singles.{write_begins_asked}
use Rattle.registers.proofs.range.RangeHeadRegister.begin_write.Goals as goal

pub invariant_of-self-clause-asked : goal.invariant_of-self-clause-asked
invariant_of-self-clause-asked c = write_begins_asked _ _ c.args.processor 256 c.args.self.now.asked _ c.args.n _ _ _ c.begin_write.ensures (λ h. omega arith)
