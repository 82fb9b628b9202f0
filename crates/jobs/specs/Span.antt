-- A stretch of the score: `first` and `last`, show ticks 0 to 4,000,000, `last` not below `first`.
use Rattle.std.specs.Prelude.{ℕ, cond, ◌&&◌, Some, None, codes, Option, nat_le}
use Rattle.jobs.specs.JobType.{Names}
use Rattle.jobs.specs.declared.span.Span.{Span}

abbrev pub span_names : Names
span_names = record { name = codes "span"; key1 = codes "first"; key2 = codes "last" }

abbrev pub span_pair : Span → ℕ × ℕ
span_pair j = (j.first, j.last)

abbrev pub span_of : ℕ → ℕ → Option Span
span_of a b = cond (nat_le a b && nat_le b 4000000) (Some (record { first = a; last = b })) None
