use Rattle.std.proofs.Common.{set, Some, sym, subst₂}
use Rattle.registers.specs.Accepted.{found_under_way}
use Rattle.registers.specs.Operations.{at}
use Rattle.trees.specs.Held.{fit_at}
use Rattle.trees.proofs.Kept.{Kept, step_keeps}
use Rattle.trees.proofs.tree.TreeHeadRegister.step.Goals as goal

pub access-became-requires : goal.access-became-requires
access-became-requires c =
    let x = c.args.self.now in
    let p = c.args.processor in
    let found = found_under_way p (at x.state.operations p) _ c.in_ok-walk.ensures in
    fit_at x p (Some c.in_ok-walk.walk) found.1

pub invariant_of-self : goal.invariant_of-self
invariant_of-self c =
    let x = c.args.self.now in
    let p = c.args.processor in
    let found = found_under_way p (at x.state.operations p) _ c.in_ok-walk.ensures in
    let e = c.access-became.ensures in
    subst₂ (λ t o. Kept t (set x.state.operations p o)) (sym e.switches) (sym e.next) (step_keeps x p found.0 c.in_ok-walk.walk found.1)
