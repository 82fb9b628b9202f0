use Rattle.std.proofs.Common.{◌≡◌, ℕ, map, subst, arith}
use Rattle.std.proofs.lemmas.List.FromFn.{map-range_with_len_more}
use Rattle.std.specs.List.{range_with_len}
use Rattle.lanes.specs.Lane.{cell, cells}
use Rattle.lanes.proofs.lane.Lanes.put_cells.Goals as goal

pub loop-x-preserved : goal.loop-x-preserved
loop-x-preserved g c =
    let join = g.S.Sink.laws.join in
    let here = rw c.cell.ensures at c.put.ensures in
    rw (map-range_with_len_more (cell c.args.self.now.scale c.args.processor c.args.self.now.entries.now) 0 c.loop-x.x c.loop-x.x (omega arith)) (search join)

pub returns : goal.returns
unfolding cells
returns g c =
    let at = cell c.args.self.now.scale c.args.processor c.args.self.now.entries.now in
    let all : c.loop-x.x ≡ c.args.self.now.scale.columns = omega arith in
    subst (λ (n : ℕ). g.S.Sink.took c.args.s.now (map at (range_with_len 0 n)) c.loop-x.s) all c.loop-x.invariant
