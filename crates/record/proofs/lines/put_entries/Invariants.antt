use Rattle.std.proofs.Common.{drop}
use Rattle.jobs.specs.JobType.{kind}
use Rattle.record.specs.Lines.{entries_text}
use Rattle.record.proofs.lines.put_entries.Given as goal

-- what is still to come ends what was to be written
abbrev pub invariant-loop-i : goal.invariant-loop-i
invariant-loop-i g l =
    (u : g.row.S.Denot) → g.S.Sink.took l.s (entries_text (kind g.J.Job.names g.J.Job.made) l.i (drop l.i l.entries)) u
    → g.S.Sink.took l.initial.s (entries_text (kind g.J.Job.names g.J.Job.made) 0 l.entries) u
