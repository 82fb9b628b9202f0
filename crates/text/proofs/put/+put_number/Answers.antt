use Rattle.std.proofs.Common.{sym, subst, arith}
use Rattle.std.proofs.lemmas.Fmt.{decimal_digit}
use Rattle.text.proofs.Decimals.{decimal_of_two, decimal_step_two}
use Rattle.text.proofs.put.+put_number.Goals as goal

pub returns-in-0-to-9 : goal.returns-in-0-to-9
returns-in-0-to-9 g t c = subst (λ l. g.S.Sink.took c.args.s.now l c.put.new.self) (sym (decimal_digit _ (omega arith))) c.put.ensures

pub returns-in-10-to-99 : goal.returns-in-10-to-99
returns-in-10-to-99 g t c = subst (λ l. g.S.Sink.took c.args.s.now l c.put_two_figures.new.s) (sym (decimal_of_two _ (omega arith) (omega arith))) c.put_two_figures.ensures

pub returns-in_default : goal.returns-in_default
returns-in_default g t c =
    subst (λ l. g.S.Sink.took c.args.s.now l c.put_two_figures-in_default.new.s) (sym (decimal_step_two _ (omega arith) (omega arith)))
    (g.S.Sink.laws.join _ _ _ _ _ c.put_number.ensures c.put_two_figures-in_default.ensures)
