use Rattle.registers.proofs.InTime.{ends_in_time_lem}
use Rattle.registers.proofs.promises.ends_in_time.Goals as goal

pub returns : goal.returns
returns g c = ends_in_time_lem g.R.HeadRegister.model g.met.R.HeadRegister.plain
