use Rattle.std.proofs.Common.{◌≡◌, ◌%◌, sym, rules, tests}
use Rattle.trees.specs.Walks.{node}
use Rattle.trees.proofs.Found.{fall_ends, last_from_Range}
use Rattle.trees.proofs.way.Way.fall.Goals as goal

pub returns : goal.returns
returns c =
    let w = c.args.self in
    sym (fall_ends w.n w.level c.map_or.result c.find.result (search rules)
    (last_from_Range _ (λ k. node w.n k % 2 ≡ 0) (λ k. node w.n k % 2 ≡ 1) (λ x q e. search (rules, tests)) (λ x q e. search (rules, tests)) w.level _ _ _ c.rev.ensures.source c.find.ensures.ran))
