use Rattle.std.specs.List.{range_with_len, flat_map}
use Rattle.lanes.specs.Lane.{lane_text}
use Rattle.lanes.proofs.lane.Lanes.put_all.Given as goal

abbrev pub invariant-loop-p : goal.invariant-loop-p
invariant-loop-p g l = g.S.Sink.took l.initial.s (flat_map (lane_text l.self.scale l.self.entries.now) (range_with_len 0 l.p)) l.s
