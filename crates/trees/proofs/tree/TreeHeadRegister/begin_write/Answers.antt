use Rattle.std.proofs.Common.{set, sym, subst, arith}
use Rattle.registers.specs.Accepted.{allowed_write}
use Rattle.registers.specs.Operations.{at}
use Rattle.trees.specs.Walks.{descend}
use Rattle.trees.proofs.Kept.{Kept, begin_keeps}
use Rattle.trees.specs.Moves.{starts_write, goes_fit, goes_asked}
use Rattle.trees.proofs.tree.TreeHeadRegister.begin_write.Goals as goal

pub invariant_of-self : goal.invariant_of-self
invariant_of-self c =
    let x = c.args.self.now in
    let p = c.args.processor in
    let n = c.args.n in
    let (h, free, low, high) = allowed_write 128 p n (at x.state.operations p) c.in_ok-check_write.ensures in
    let g = starts_write x.state.on n low high in
    subst (λ o. Kept x.state.on (set x.state.operations p o)) (sym c.descend.ensures)
    (begin_keeps x p h (descend n 7 0) free (omega (arith, goes_asked x.state.on n 0 (descend n 7 0) g)) (goes_fit x.state.on n 0 (descend n 7 0) g))
