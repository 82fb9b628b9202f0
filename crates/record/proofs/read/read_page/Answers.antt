use Rattle.std.proofs.Common.{rules}
use Rattle.record.proofs.PageTrips.{takes_written}
use Rattle.record.proofs.read.read_page.Goals as goal

pub returns-clause-trip : goal.returns-clause-trip
returns-clause-trip c = takes_written c.args.text.now c.args.list.now _ _ (search rules) (search rules)
