use Rattle.std.proofs.Common.{length, rules}
use Rattle.record.proofs.PageTrips.{room_for}
use Rattle.record.proofs.read.read_lines.Goals as goal

pub returns-in-Check : goal.returns-in-Check
returns-in-Check c =
    let all = room_for c.args.h.now c.requires.ranged (length c.args.list.now) c.args.lines.now c.requires.short in
    record { value = rw (← all) (search rules); filled = rw (← all) (search rules) }

pub returns-in-Span : goal.returns-in-Span
returns-in-Span c =
    let all = room_for c.args.h.now c.requires.ranged (length c.args.list.now) c.args.lines.now c.requires.short in
    record { value = rw (← all) (search rules); filled = rw (← all) (search rules) }
