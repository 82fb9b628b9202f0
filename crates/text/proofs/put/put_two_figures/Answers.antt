use Rattle.text.proofs.put.put_two_figures.Goals as goal

pub returns : goal.returns
returns g c = g.S.Sink.laws.join _ _ _ _ _ c.put.ensures c.put-2.ensures
