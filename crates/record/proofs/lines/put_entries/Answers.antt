use Rattle.std.proofs.Common.{sym, subst}
use Rattle.std.proofs.lemmas.List.{at_drop_more, at_drop_all}
use Rattle.jobs.specs.JobType.{kind}
use Rattle.record.specs.Lines.{entries_text}
use Rattle.record.proofs.lines.put_entries.Goals as goal

pub loop-i-preserved : goal.loop-i-preserved
loop-i-preserved g c = λ u rest.
    c.loop-i.invariant u
    (subst (λ l. g.S.Sink.took c.loop-i.s l u)
    (sym (at_drop_more (entries_text (kind g.J.Job.names g.J.Job.made) c.loop-i.i) c.args.entries.now c.loop-i.i _ c.loop-i-test.true))
    (g.S.Sink.laws.join _ _ _ _ _ c.put_entry.ensures rest))

pub returns : goal.returns
returns g c =
    c.loop-i.invariant _
    (subst (λ l. g.S.Sink.took c.loop-i.s l c.loop-i.s)
    (sym (at_drop_all (entries_text (kind g.J.Job.names g.J.Job.made) c.loop-i.i) c.args.entries.now c.loop-i.i c.loop-i-test.false))
    (g.S.Sink.laws.none _))
