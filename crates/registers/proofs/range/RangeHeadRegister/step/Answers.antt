use Rattle.std.proofs.Common.{Some, refl, ap, ◌∙◌, arith}
use Rattle.registers.specs.declared.single.Single.TheVariants.{Write}
use Rattle.registers.specs.Single.{single_op}
use Rattle.registers.specs.Slots.{most_at}
use Rattle.registers.specs.Turns.{asked_at}
use Rattle.registers.proofs.Ranges.{owns}
use Rattle.registers.proofs.Singles.{taken, takes_asked}
use Rattle.registers.proofs.range.RangeHeadRegister.step.Goals as goal

pub invariant_of-self-in-Read : goal.invariant_of-self-in-Read
invariant_of-self-in-Read c =
    let s = c.args.self.now in
    let p = c.args.processor in
    let q = most_at 0 (λ n. n) refl s.state.own p in
    owns s p s.state.shared c.max-seen.result _ _ c.in_ok-operation.ensures (omega arith) (omega arith)

pub invariant_of-self-then-n-own : goal.invariant_of-self-then-n-own
invariant_of-self-then-n-own c =
    let s = c.args.self.now in
    let p = c.args.processor in
    let n = c.in-Write.n in
    let (h, is, now) = taken p _ _ _ _ c.in_ok-operation.ensures in
    owns s p n n _ _ c.in_ok-operation.ensures (omega arith) (asked_at single_op s.state.operations p 256 (Write n) s.asked (is ∙ ap Some c.in-Write.is))

pub invariant_of-self-else-n-own-clause-asked : goal.invariant_of-self-else-n-own-clause-asked
invariant_of-self-else-n-own-clause-asked c = takes_asked _ _ c.args.processor 256 c.args.self.now.asked _ _ c.in_ok-operation.ensures
