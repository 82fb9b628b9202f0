use Rattle.std.proofs.Common.{length, sym, ap, arith}
use Rattle.jobs.specs.JobType.{kind}
use Rattle.record.specs.Write.{text_size, buffer_after}
use Rattle.record.proofs.PageWriting.{page_some, page_long}
use Rattle.record.proofs.write.write_jobs.Goals as goal

pub returns-then-page-gt32768 : goal.returns-then-page-gt32768
returns-then-page-gt32768 g c =
    let k = kind g.J.Job.names g.J.Job.made in
    let page = c.args.page.now in
    let is = page_long k (length c.args.out.now) page.header page.entries.now (sym c.if-not-header_in_range.ensures) (sym c.if-not-all_in_range.ensures) (sym c.if-not-all_have_jobs.ensures) (omega (arith, page_some k page.header page.entries.now)) in
    record { value = sym (ap text_size is); bytes = sym (ap (λ r. buffer_after r c.args.out.now) is) }
