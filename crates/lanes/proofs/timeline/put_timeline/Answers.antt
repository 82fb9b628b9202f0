use Rattle.std.proofs.Common.{◌≡◌, length, take, ap, ◌∙◌}
use Rattle.std.proofs.Math.Nat.{min_comm}
use Rattle.std.proofs.lemmas.List.{take_min}
use Rattle.lanes.specs.Timeline.{drawing, timeline_text}
use Rattle.lanes.proofs.Told.{lanes_tell}
use Rattle.lanes.proofs.timeline.put_timeline.Goals as goal

pub returns : goal.returns
unfolding timeline_text drawing
returns g c =
    let join = g.S.Sink.laws.join in
    let es = c.args.page.now.entries.now in
    let whole = join _ _ _ _ _ c.put_head.ensures (join _ _ _ _ _ c.put_listing_for.ensures (join _ _ _ _ _ c.put_title.ensures c.put_all.ensures)) in
    let shown : take c.min.result es ≡ take 65535 es = ap (λ n. take n es) (c.min.ensures ∙ min_comm (length es) 65535) ∙ take_min 65535 es in
    record {
      text = rw (c.new-lanes.ensures.scale, c.new-lanes.ensures.entries, shown) at whole;
      tells = lanes_tell c.args.width (take 65535 es);
    }
