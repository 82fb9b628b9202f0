use Rattle.trees.proofs.Kept.{reads_switch}
use Rattle.trees.proofs.walk.Walk.access.Goals as goal

pub read-requires : goal.read-requires
read-requires c = reads_switch c.args.switches.now c.in-Reading.node c.in-Reading.left (rw c.in-Reading.is at c.requires)
