use Rattle.std.proofs.Common.{◌<◌, [], ◌∷◌, ◌++◌, length, sym, arith, length-append, false-eqb}
use Rattle.record.proofs.ReadLines.{all_again}
use Rattle.record.proofs.read_lines.read_all.Goals as goal

pub loop-n-preserved : goal.loop-n-preserved
loop-n-preserved g c =
    let i = c.loop-n.invariant.1 in
    let e = c.in_ok-read_entry.field-0 in
    let some : 0 < length c.loop-n.r.rest.now = omega (arith, false-eqb _ 0 c.if-is_empty.ensures) in (
      omega arith,
      (
        i.0 ++ (e ∷ []),
        omega (arith, length-append i.0 (e ∷ []), i.1),
        g.S.Sink.laws.join _ _ _ _ _ i.2 c.put.ensures,
        all_again _ _ _ _ _ _ _ _ _ c.loop-n-test.true some i.3 (sym c.in_ok-read_entry.ensures),
      ),
    )
