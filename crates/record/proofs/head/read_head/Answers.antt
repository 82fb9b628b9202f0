use Rattle.std.proofs.Common.{◌≤◌, refl, arith}
use Rattle.std.proofs.lemmas.Bool.{and_from, le-leb}
use Rattle.record.proofs.head.read_head.Goals as goal

pub returns-clause-ranged : goal.returns-clause-ranged
returns-clause-ranged c =
    let p = (c.in_ok-places.ensures.sound c.in_ok-places.places _ refl).0 in
    let q = (c.in_ok-processors.ensures.sound c.in_ok-processors.processors _ refl).0 in
    let most_places : c.in_ok-places.places ≤ 257 = omega (arith, c.new.ensures.end, p.1) in
    let most : c.in_ok-processors.processors ≤ 16 = omega (arith, c.new-2.ensures.end, q.1) in
    let places : 3 ≤ c.in_ok-places.places = omega (arith, c.new.ensures.start, p.0) in
    let processors : 1 ≤ c.in_ok-processors.processors = omega (arith, c.new-2.ensures.start, q.0) in
    and_from _ _ (le-leb _ _ places) (and_from _ _ (le-leb _ _ most_places) (and_from _ _ (le-leb _ _ processors) (le-leb _ _ most)))
