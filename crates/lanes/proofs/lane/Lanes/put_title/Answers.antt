use Rattle.lanes.specs.Timeline.{title}
use Rattle.lanes.proofs.lane.Lanes.put_title.Goals as goal

pub returns : goal.returns
unfolding title
returns g c = let join = g.S.Sink.laws.join in search join
