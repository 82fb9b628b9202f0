use Rattle.std.proofs.Common.{◌≡◌, ◌≢◌, ℕ, ◌+◌, ◌<◌, List, ◌++◌, length, get_or, drop, sym, subst, arith}
use Rattle.std.proofs.lemmas.List.{at_drop_more, at_drop_all}
use Rattle.entries.specs.declared.entry.Entry.{Entry}
use Rattle.jobs.specs.JobType.{Kind, kind}
use Rattle.lanes.specs.Listing.{operation_text, own_text, operations_of}
use Rattle.lanes.proofs.listing.put_operations.Goals as goal
use Rattle.lanes.proofs.listing.put_operations.Goals.{then-e-processor, else-e-processor}

module _ (k : Kind) (p i : ℕ) (es : List Entry) (d : Entry) (within : i < length es) where
  own_more : (get_or es i d).processor ≡ p → operations_of k p i (drop i es) ≡ operation_text k (i + 1) (get_or es i d) ++ operations_of k p (i + 1) (drop (i + 1) es)
  unfolding own_text
  own_more own = let more = at_drop_more (operations_of k p i) es i d within in grind arith

  other_more : (get_or es i d).processor ≢ p → operations_of k p i (drop i es) ≡ operations_of k p (i + 1) (drop (i + 1) es)
  unfolding own_text
  other_more other = let more = at_drop_more (operations_of k p i) es i d within in grind arith

pub loop-i-preserved : goal.loop-i-preserved
loop-i-preserved g c = λ u rest.
    let within = c.loop-i-test.true in
    c.loop-i.invariant u (elim c.if-e-processor.branch [
      | then-e-processor w ↦
          let join = g.S.Sink.laws.join in
          let later = rw w.s-is at rest in
          rw (own_more _ _ _ _ _ within w.if-e-processor.true) (search join)
      | else-e-processor w ↦ rw (other_more _ _ _ _ _ within w.if-e-processor.false, ← w.s-is) rest
    ])

pub returns : goal.returns
returns g c =
    let operations = operations_of (kind g.J.Job.names g.J.Job.made) c.args.processor in
    let none = at_drop_all (operations c.loop-i.i) c.args.entries.now c.loop-i.i c.loop-i-test.false in
    c.loop-i.invariant _ (subst (λ l. g.S.Sink.took c.loop-i.s l c.loop-i.s) (sym none) (g.S.Sink.laws.none _))
