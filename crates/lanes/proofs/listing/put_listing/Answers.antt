use Rattle.std.proofs.Common.{◌≡◌, arith}
use Rattle.jobs.specs.JobType.{kind}
use Rattle.lanes.specs.Listing.{processor_text, listing}
use Rattle.lanes.proofs.Counts.{flat_map-range_more}
use Rattle.lanes.proofs.listing.put_listing.Goals as goal

pub loop-p-preserved : goal.loop-p-preserved
loop-p-preserved g c =
    let join = g.S.Sink.laws.join in
    rw (flat_map-range_more (processor_text (kind g.J.Job.names g.J.Job.made) c.args.page.now.entries.now) c.loop-p.p) (search join)

pub returns : goal.returns
unfolding listing
returns g c = let all : c.loop-p.p ≡ c.args.page.now.header.processors = omega arith in rw (← all) c.loop-p.invariant
