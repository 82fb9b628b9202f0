use Rattle.std.proofs.Common.{◌≡◌, arith}
use Rattle.lanes.specs.Lane.{lane_text}
use Rattle.lanes.specs.Timeline.{lanes_text}
use Rattle.lanes.proofs.Counts.{flat_map-range_more}
use Rattle.lanes.proofs.lane.Lanes.put_all.Goals as goal

pub loop-p-preserved : goal.loop-p-preserved
loop-p-preserved g c =
    let join = g.S.Sink.laws.join in
    rw (flat_map-range_more (lane_text c.args.self.now.scale c.args.self.now.entries.now) c.loop-p.p) (search join)

pub returns : goal.returns
unfolding lanes_text
returns g c = let all : c.loop-p.p ≡ c.args.processors = omega arith in rw (← all) c.loop-p.invariant
