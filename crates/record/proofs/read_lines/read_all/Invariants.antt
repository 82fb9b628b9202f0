use Rattle.std.proofs.Common.{◌≡◌, ◌-◌, ◌≤◌, List, length}
use Rattle.jobs.specs.JobType.{kind}
use Rattle.entries.specs.declared.entry.Entry.{Entry}
use Rattle.record.specs.Read.{read_entries}
use Rattle.record.proofs.ReadLines.{with_all}
use Rattle.record.proofs.read_lines.read_all.Given as goal

-- the entries so far were taken, and the others are still to come
abbrev pub invariant-loop-n : goal.invariant-loop-n
invariant-loop-n g l =
    (l.n ≤ l.room)
    × ((front : List Entry)
    × (length front ≡ l.n)
    × (g.S.Sink.took l.initial.s front l.s)
    × (read_entries (kind g.J.Job.names g.J.Job.made) l.h l.room 0 l.initial.r.rest.now ≡ with_all front (read_entries (kind g.J.Job.names g.J.Job.made) l.h (l.room - l.n) l.n l.r.rest.now)))
