use Rattle.std.proofs.Common.{◌≤◌, length, take}
use Rattle.text.proofs.put.put_bytes.Given as goal

abbrev pub invariant-loop-b : goal.invariant-loop-b
invariant-loop-b g l = (l.b-index ≤ length l.bs) × (g.S.Sink.took l.initial.s (take l.b-index l.bs) l.s)
