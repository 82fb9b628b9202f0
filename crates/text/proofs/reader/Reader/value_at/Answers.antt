use Rattle.std.proofs.Common.{Some, None, Ok, Err, sym, refl, ap, ◌∙◌}
use Rattle.text.proofs.Words.{pair_unkeyed, pair_unread, pair_read}
use Rattle.text.proofs.reader.Reader.value_at.Goals as goal

pub returns-in_default : goal.returns-in_default
returns-in_default g c = λ rule _. ap Err c.at.ensures ∙ sym (pair_unkeyed _ rule _ (sym c.in_default.ensures))

pub returns-in_default-rule : goal.returns-in_default-rule
returns-in_default-rule g c = λ rule gives.
    let word = c.split_word.result.0 in
    let read = ap rule (sym c.split_word.ensures.word) ∙ sym (gives word.now None (word, c.in_default-rule.ensures, refl)) in
    ap Err c.at-in_default-rule.ensures ∙ sym (pair_unread _ rule _ _ (sym c.in-Some.ensures) read)

pub returns : goal.returns
returns g c = λ rule gives.
    let word = c.split_word.result.0 in
    let read = ap rule (sym c.split_word.ensures.word) ∙ sym (gives word.now (Some c.in-Some-rule.value) (word, c.in-Some-rule.ensures, refl)) in
    ap (λ l. Ok (c.in-Some-rule.value, l)) c.split_word.ensures.rest ∙ sym (pair_read _ rule _ _ _ (sym c.in-Some.ensures) read)
