use Rattle.std.proofs.Common.{◌≡◌, ◌-◌, ◌^◌, ◌<◌, ◌≤◌, min, length, ap, ◌∙◌, arith}
use Rattle.text.specs.Written.{written}
use Rattle.lanes.specs.Report.{report_text}
use Rattle.lanes.proofs.Reports.{few, answer_report}
use Rattle.lanes.proofs.report.report.Goals as goal

pub page_in-answer-requires : goal.page_in-answer-requires
page_in-answer-requires c = rw (← c.read_page-read.auto.list) at (few _ _ _ _ c.read_page-read.ensures.trip)

pub returns-then-needed-out : goal.returns-then-needed-out
returns-then-needed-out c =
    let read = c.read_page-read.ensures in
    let is = answer_report c.args.text.now c.args.list.now _ c.args.width _ _ read.value read.filled read.trip c.page_in-answer.ensures in
    let long = ap length is in
    let count = c.put_answer.ensures (omega arith) in
    let size = length (report_text (length c.args.list.now) c.args.text.now c.args.width) in
    let needed : c.put_answer.new.s.n ≡ min size (2 ^ 64 - 1) = omega arith in
    let over : min (length c.args.out.now) (2 ^ 64 - 2) < size = omega (arith, c.if-needed-out.true) in
    record { value = grind arith; bytes = grind arith; filled = read.filled }

pub returns : goal.returns
returns c =
    let read = c.read_page-read.ensures in
    let is = answer_report c.args.text.now c.args.list.now _ c.args.width _ _ read.value read.filled read.trip c.page_in-answer.ensures in
    let long = ap length is in
    let count = c.put_answer.ensures (omega arith) in
    let size = length (report_text (length c.args.list.now) c.args.text.now c.args.width) in
    let needed : c.put_answer.new.s.n ≡ size = omega (arith, c.if-needed-out.false) in
    let under : size ≤ min (length c.args.out.now) (2 ^ 64 - 2) = omega (arith, c.if-needed-out.false) in
    let told = c.put_answer-2.ensures in
    let bytes = told.bytes (omega arith) ∙ ap (written c.args.out.now 0) is in
    record { value = grind arith; bytes = grind arith; filled = read.filled }
