-- The check of an igniter line: `line` 1 to 1,024 and `limit` 1 to 999, in tenths of an ohm.
use Rattle.std.specs.Prelude.{ℕ, cond, ◌&&◌, Some, None, codes, Option, nat_le}
use Rattle.jobs.specs.JobType.{Names}
use Rattle.jobs.specs.declared.check.Check.{Check}

abbrev pub check_names : Names
check_names = record { name = codes "check"; key1 = codes "line"; key2 = codes "limit" }

abbrev pub check_pair : Check → ℕ × ℕ
check_pair j = (j.line, j.limit)

abbrev pub check_of : ℕ → ℕ → Option Check
check_of a b = cond (nat_le 1 a && nat_le a 1024 && nat_le 1 b && nat_le b 999) (Some (record { line = a; limit = b })) None
