use Rattle.lanes.specs.Lane.{lane_text}
use Rattle.lanes.proofs.lane.Lanes.put_lane.Goals as goal

pub returns : goal.returns
unfolding lane_text
returns g c =
    let join = g.S.Sink.laws.join in
    let spaces = rw c.padding.ensures at c.put_bytes-2.ensures in
    let columns = join _ _ _ _ _ c.put.ensures (join _ _ _ _ _ c.put_cells.ensures c.put_bytes-3.ensures) in
    search join
