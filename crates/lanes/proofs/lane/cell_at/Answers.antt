use Rattle.std.proofs.Common.{rules}
use Rattle.lanes.proofs.Told.{lanes_tell}
use Rattle.lanes.proofs.lane.cell_at.Goals as goal

pub returns-clause-idle : goal.returns-clause-idle
returns-clause-idle c = let told = lanes_tell c.args.width c.args.entries.now in search (rules, told.idle_seen)

pub returns-clause-busy : goal.returns-clause-busy
returns-clause-busy c = let told = lanes_tell c.args.width c.args.entries.now in search (rules, told.busy_seen)
