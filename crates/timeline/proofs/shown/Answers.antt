use Rattle.std.proofs.Common.{◌≡◌, ℕ, ◌-◌, ◌^◌, min, length, ap, ◌∙◌, arith}
use Rattle.std.proofs.lemmas.List.{take_at}
use Rattle.lanes.specs.Report.{report_text, report_buffer}
use Rattle.timeline.proofs.Filled.{all_written}
use Rattle.timeline.proofs.shown.Goals as goal

pub returns : goal.returns
returns c =
    let page = c.args.page.now in
    let width = c.args.width in
    let out = c.deref_mut-3.result.now in
    let first : length c.deref_mut.result.now ≡ 1024 = c.deref_mut.ensures.len ∙ c.in_ok-list.ensures.len in
    let second : length c.deref_mut-2.result.now ≡ 1024 = c.deref_mut-2.ensures.len ∙ c.in_ok-list.ensures.len in
    let long = c.deref_mut-3.ensures.len ∙ c.in_ok-out.ensures.len ∙ c.report_len-n.ensures ∙ ap (λ (k : ℕ). min (length (report_text k page width)) (2 ^ 64 - 1)) first in
    let bytes = c.report.ensures.bytes ∙ ap (λ (k : ℕ). report_buffer (report_text k page width) out) second in
    let size : length c.report.new.out ≡ c.in_ok-out.out.len = c.report.auto.out ∙ c.deref_mut-3.ensures.len in
    take_at c.report.new.out _ _ size ∙ bytes ∙ all_written (report_text 1024 page width) out long (omega arith)
