use Rattle.std.proofs.Common.{◌≡◌, ◌%◌, sym, ◌∙◌, rules, tests}
use Rattle.std.proofs.lemmas.Iterator.{first_from_Range}
use Rattle.trees.specs.Walks.{node}
use Rattle.trees.proofs.Found.{rise_ends}
use Rattle.trees.proofs.way.Way.rise.Goals as goal

pub returns : goal.returns
returns c =
    let w = c.args.self in
    c.unwrap_or.ensures ∙ sym (rise_ends w.n w.level c.find.result w.few
    (first_from_Range _ _ _ _ (λ k. node w.n k % 2 ≡ 1) (λ k. node w.n k % 2 ≡ 0) c.find.ensures.ran (λ x q e. search (rules, tests)) (λ x q e. search (rules, tests))))
