use Rattle.trees.proofs.Kept.{new_keeps}
use Rattle.trees.proofs.tree.TreeHeadRegister.fresh.Goals as goal

pub invariant_of-result : goal.invariant_of-result
invariant_of-result c = new_keeps
