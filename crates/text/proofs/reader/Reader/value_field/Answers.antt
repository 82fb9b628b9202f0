use Rattle.std.proofs.Common.{rules}
use Rattle.text.specs.Pairs.{field, then}
use Rattle.text.proofs.reader.Reader.value_field.Goals as goal

pub returns-in_err-value : goal.returns-in_err-value
unfolding field then
returns-in_err-value g c = λ rule gives. let read = c.value_at.ensures rule gives in search rules

pub returns-in_err-gap_at : goal.returns-in_err-gap_at
unfolding field then
returns-in_err-gap_at g c = λ rule gives. let read = c.value_at.ensures rule gives in search rules

pub returns : goal.returns
unfolding field then
returns g c = λ rule gives. let read = c.value_at.ensures rule gives in search rules
