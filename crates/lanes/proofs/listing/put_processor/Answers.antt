use Rattle.lanes.specs.Listing.{processor_text}
use Rattle.lanes.proofs.listing.put_processor.Goals as goal

pub returns : goal.returns
unfolding processor_text
returns g c =
    let join = g.S.Sink.laws.join in
    let operations = join _ _ _ _ _ c.put.ensures c.put_operations.ensures in
    search join
