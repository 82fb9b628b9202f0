use Rattle.std.proofs.Common.{rules}
use Rattle.record.proofs.PageTrips.{makes_read}
use Rattle.record.proofs.write.write_page.Goals as goal

pub returns-in-Check-clause-trip : goal.returns-in-Check-clause-trip
returns-in-Check-clause-trip c = makes_read c.args.out.now _ c.args.page.now.header c.args.page.now.entries.now _ (search rules) (search rules)

pub returns-in-Span-clause-trip : goal.returns-in-Span-clause-trip
returns-in-Span-clause-trip c = makes_read c.args.out.now _ c.args.page.now.header c.args.page.now.entries.now _ (search rules) (search rules)
