use Rattle.std.proofs.Common.{Some, ap, ◌∙◌, arith}
use Rattle.registers.specs.declared.single.Single.TheVariants.{Write}
use Rattle.registers.specs.Single.{single_op}
use Rattle.registers.specs.Turns.{asked_at}
use Rattle.registers.proofs.Singles.{taken, takes_asked}
use Rattle.registers.proofs.word.WordHeadRegister.step.Goals as goal

pub invariant_of-self-in-Read-clause-asked : goal.invariant_of-self-in-Read-clause-asked
invariant_of-self-in-Read-clause-asked c = takes_asked _ _ c.args.processor 256 c.args.self.now.asked _ _ c.in_ok-operation.ensures

pub invariant_of-self-in-Write-clause-held : goal.invariant_of-self-in-Write-clause-held
invariant_of-self-in-Write-clause-held c =
    let s = c.args.self.now in
    let (h, is, now) = taken c.args.processor _ _ _ _ c.in_ok-operation.ensures in
    let small = asked_at single_op s.state.operations c.args.processor 256 (Write c.in-Write.n) s.asked (is ∙ ap Some c.in-Write.is) in
    omega arith

pub invariant_of-self-in-Write-clause-asked : goal.invariant_of-self-in-Write-clause-asked
invariant_of-self-in-Write-clause-asked c = takes_asked _ _ c.args.processor 256 c.args.self.now.asked _ _ c.in_ok-operation.ensures
