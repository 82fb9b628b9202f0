use Rattle.std.proofs.Common.{ℕ, ◌≤◌, length, sym, ap, ◌∙◌, arith, rules}
use Rattle.jobs.specs.JobType.{kind}
use Rattle.record.specs.Read.{read_entries, list_after}
use Rattle.record.proofs.ReadLines.{ok_from_size, lines_within}
use Rattle.record.proofs.read_lines.fill_list.Goals as goal

pub returns : goal.returns
returns g c =
    let read = λ (n : ℕ). read_entries (kind g.J.Job.names g.J.Job.made) c.args.h.now n 0 c.args.lines.now in
    let room = c.min-room.ensures in
    let ok = ok_from_size (read c.min-room.result) _ c.in_ok-read_all.ensures.value in
    let fits : length ok.0 ≤ length c.args.list.now = omega (arith, lines_within (kind g.J.Job.names g.J.Job.made) c.args.h.now c.min-room.result 0 c.args.lines.now ok.0 ok.1) in
    let told = c.read_all-2.ensures.taken ok.0 ok.1 in
    let bytes = told.bytes (omega arith) in
    let same = told.same in
    let last = ap (λ n. list_after (read n) c.args.list.now) (sym room) ∙ ap (λ r. list_after r c.args.list.now) ok.1 in
    record { value = search rules; filled = let eman = sym same in search rules }
