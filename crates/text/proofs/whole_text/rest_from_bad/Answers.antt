use Rattle.std.proofs.Common.{length, drop, ap, ◌∙◌}
use Rattle.std.proofs.lemmas.List.{take_rest}
use Rattle.std.specs.Option.{unwrap_or}
use Rattle.text.proofs.Wholes.{from_first_bad}
use Rattle.text.proofs.whole_text.rest_from_bad.Goals as goal

pub returns : goal.returns
returns c =
    let s = c.args.text.now in
    take_rest s c.unwrap_or.result ∙ ap (λ n. drop n s) (c.unwrap_or.ensures ∙ ap (λ o. unwrap_or o (length s)) c.first_bad.ensures) ∙ from_first_bad s
