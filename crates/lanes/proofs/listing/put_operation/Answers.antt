use Rattle.lanes.specs.Listing.{operation_text}
use Rattle.lanes.proofs.listing.put_operation.Goals as goal

pub returns : goal.returns
unfolding operation_text
returns g c =
    let join = g.S.Sink.laws.join in
    let call = rw c.to_word.ensures at c.put_word.ensures in
    let end = rw c.ending.ensures at c.put_bytes-3.ensures in
    search join depth 12 fits 20000
