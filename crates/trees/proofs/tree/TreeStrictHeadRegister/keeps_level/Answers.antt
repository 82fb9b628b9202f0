use Rattle.std.proofs.Common.{ap, arith}
use Rattle.registers.specs.Operations.{at}
use Rattle.registers.proofs.Levels.{level_is}
use Rattle.registers.specs.Turns.{idle_none}
use Rattle.trees.specs.Tree.{tree_meaning, tree_floor}
use Rattle.trees.specs.Walks.{walk_op}
use Rattle.trees.specs.Moves.{floor_below}
use Rattle.trees.proofs.tree.TreeStrictHeadRegister.keeps_level.Goals as goal

-- an idle processor's floor is what is shown, and no floor is above that
pub returns : goal.returns
returns c = record {
  at_rest = λ x _ p h rest.
      let e = ap (tree_floor x.state.on) (idle_none walk_op (at x.state.operations p) rest) in
      level_is (tree_meaning x.state) p h (λ q _. omega (arith, e, floor_below x.state.on (at x.state.operations q) (x.fit q)));
}
