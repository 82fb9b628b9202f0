use Rattle.trees.proofs.Kept.{read_keeps}
use Rattle.trees.proofs.tree.TreeHeadRegister.begin_read.Goals as goal

pub invariant_of-self : goal.invariant_of-self
invariant_of-self c = read_keeps c.args.self.now c.args.processor _ _ c.begin_read.ensures
