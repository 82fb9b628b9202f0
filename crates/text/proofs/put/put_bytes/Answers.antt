use Rattle.std.proofs.Common.{sym, subst, arith, take_all}
use Rattle.std.proofs.lemmas.List.{take_more}
use Rattle.text.proofs.put.put_bytes.Goals as goal

pub loop-b-init : goal.loop-b-init
loop-b-init g c = (omega arith, g.S.Sink.laws.none _)

pub loop-b-preserved : goal.loop-b-preserved
loop-b-preserved g c = (
  omega arith,
  subst (λ l. g.S.Sink.took c.args.s.now l c.put.new.self) (sym (take_more c.args.bs.now c.loop-b.b-index 0 c.loop-b-test.true))
      (g.S.Sink.laws.join _ _ _ _ _ c.loop-b.invariant.1 c.put.ensures),
)

pub returns : goal.returns
returns g c = subst (λ l. g.S.Sink.took c.args.s.now l c.loop-b.s) (take_all _ _ c.loop-b-test.false) c.loop-b.invariant.1
