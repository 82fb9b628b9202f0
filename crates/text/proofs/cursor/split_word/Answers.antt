use Rattle.std.proofs.Common.{◌≡◌, length, take, drop, ap, ◌∙◌}
use Rattle.std.specs.Option.{unwrap_or}
use Rattle.text.specs.Pairs.{word}
use Rattle.text.proofs.Words.{word_end, word_take, after_drop}
use Rattle.text.proofs.cursor.split_word.Goals as goal
use Rattle.text.proofs.cursor.split_word.Goals.{After-split_at}

ends : (c : After-split_at) → c.unwrap_or.result ≡ length (word c.args.text.now)
ends c = let s = c.args.text.now in c.unwrap_or.ensures ∙ ap (λ o. unwrap_or o (length s)) c.first_stop.ensures ∙ word_end s

pub returns-clause-word : goal.returns-clause-word
returns-clause-word c = c.split_at.ensures.front ∙ ap (λ n. take n c.args.text.now) (ends c) ∙ word_take c.args.text.now

pub returns-clause-rest : goal.returns-clause-rest
returns-clause-rest c = c.split_at.ensures.back ∙ ap (λ n. drop n c.args.text.now) (ends c) ∙ after_drop c.args.text.now
