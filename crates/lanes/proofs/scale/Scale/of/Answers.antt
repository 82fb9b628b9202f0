use Rattle.std.proofs.Common.{map, arith}
use Rattle.lanes.specs.Scale.{latest, le-fold_max}
use Rattle.lanes.proofs.scale.Scale.of.Goals as goal

pub invariant_of-result : goal.invariant_of-result
invariant_of-result c = record { from_one = omega (arith, le-fold_max 1 (map latest c.args.entries.now)) }
