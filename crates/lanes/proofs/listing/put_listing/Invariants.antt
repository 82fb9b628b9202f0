use Rattle.std.specs.List.{range_with_len, flat_map}
use Rattle.jobs.specs.JobType.{kind}
use Rattle.lanes.specs.Listing.{processor_text}
use Rattle.lanes.proofs.listing.put_listing.Given as goal

abbrev pub invariant-loop-p : goal.invariant-loop-p
invariant-loop-p g l = g.S.Sink.took l.initial.s (flat_map (processor_text (kind g.J.Job.names g.J.Job.made) l.page.entries.now) (range_with_len 0 l.p)) l.s
