use Rattle.text.specs.Written.{number_pair}
use Rattle.text.proofs.put.put_pair.Goals as goal

pub returns : goal.returns
unfolding number_pair
returns g c =
    let join = g.S.Sink.laws.join in
    join _ _ _ _ _ c.put_bytes.ensures (join _ _ _ _ _ c.put.ensures (join _ _ _ _ _ c.put_number.ensures c.put-2.ensures))
