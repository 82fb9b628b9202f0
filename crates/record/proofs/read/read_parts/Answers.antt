use Rattle.std.proofs.Common.{sym}
use Rattle.record.proofs.PageTrips.{rest_short}
use Rattle.record.proofs.read.read_parts.Goals as goal

pub read_lines-requires-clause-short : goal.read_lines-requires-clause-short
read_lines-requires-clause-short c = rest_short c.args.text.now _ _ _ (sym c.in_ok-check_whole.ensures.is) (sym c.in_ok-header.ensures.value)
