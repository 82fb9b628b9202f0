use Rattle.std.proofs.Common.{drop}
use Rattle.jobs.specs.JobType.{kind}
use Rattle.lanes.specs.Listing.{operations_of}
use Rattle.lanes.proofs.listing.put_operations.Given as goal

-- what is still to come ends what was to be written
abbrev pub invariant-loop-i : goal.invariant-loop-i
invariant-loop-i g l = (u : g.row.S.Denot) → g.S.Sink.took l.s (operations_of (kind g.J.Job.names g.J.Job.made) l.processor l.i (drop l.i l.entries)) u → g.S.Sink.took l.initial.s (operations_of (kind g.J.Job.names g.J.Job.made) l.processor 0 l.entries) u
