use Rattle.text.specs.Written.{word_pair}
use Rattle.text.proofs.put.put_word.Goals as goal

pub returns : goal.returns
unfolding word_pair
returns g c =
    let join = g.S.Sink.laws.join in
    join _ _ _ _ _ c.put_bytes.ensures (join _ _ _ _ _ c.put.ensures (join _ _ _ _ _ c.put_bytes-2.ensures c.put-2.ensures))
