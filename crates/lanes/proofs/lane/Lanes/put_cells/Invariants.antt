use Rattle.std.proofs.Common.{map}
use Rattle.std.specs.List.{range_with_len}
use Rattle.lanes.specs.Lane.{cell}
use Rattle.lanes.proofs.lane.Lanes.put_cells.Given as goal

abbrev pub invariant-loop-x : goal.invariant-loop-x
invariant-loop-x g l = g.S.Sink.took l.initial.s (map (cell l.self.scale l.processor l.self.entries.now) (range_with_len 0 l.x)) l.s
