-- What the lanes tell holds.
use Rattle.std.proofs.Common.{◌≡◌, ◌≢◌, ℕ, ◌≤◌, max, true, List, [], ◌∷◌, refl, arith}
use Rattle.std.proofs.lemmas.List.Elements.{All-nil, All-cons, All-head, All-tail}
use Rattle.entries.specs.declared.entry.Entry.{Entry}
use Rattle.lanes.specs.Lane.{cell}
use Rattle.lanes.specs.Scale.{scale_of, column, end_of, covers}
use Rattle.lanes.specs.Tells.{Idle, Overlap, Shared, LanesTell}
use Rattle.lanes.specs.declared.scale.Scale.{Scale}
use Rattle.lanes.proofs.Columns.{column_mono, column_below, column_own}
use Rattle.lanes.proofs.Stamps.{begun}
use Rattle.lanes.proofs.Paddings.{length-lane}

module _ (scale : Scale) (p x : ℕ) where
  abbrev Hidden : Entry → Type 0
  Hidden e = e.processor ≡ p → covers scale e x ≢ true

  idle : (es : List Entry) → Idle scale p es x → cell scale p es x ≡ 46
  idle [] h = refl
  idle (e ∷ es) h =
      let here = All-head Hidden e es h in
      let rest = idle es (All-tail Hidden e es h) in
      grind arith

  busy : (es : List Entry) → cell scale p es x ≡ 46 → Idle scale p es x
  busy [] dot = All-nil Hidden
  busy (e ∷ es) dot =
      All-cons Hidden e es (λ own covered. grind arith) (busy es (grind arith))

-- an operation does not end before it begins
ends : (scale : Scale) (e : Entry) → e.from ≤ scale.last → e.from ≤ end_of scale e
ends scale e h = grind arith

module _ (scale : Scale) (e f : Entry) (from-e : e.from ≤ scale.last) (from-f : f.from ≤ scale.last) where
  covered : (d : Entry) (s : ℕ) → d.from ≤ s → s ≤ end_of scale d → covers scale d (column scale s) ≡ true
  covered d s low high =
      let first = column_mono scale _ _ low in
      let last = column_mono scale _ _ high in
      grind arith

  overlap : 1 ≤ scale.columns → Overlap scale e f → Shared scale e f
  overlap wide h =
      let own-e = ends scale e from-e in
      let own-f = ends scale f from-f in
      let s = max e.from f.from in
      (column scale s, column_below scale s wide (omega arith), covered e s (omega arith) (omega arith), covered f s (omega arith) (omega arith))

  apart : scale.columns ≡ scale.last → 1 ≤ e.from → 1 ≤ f.from → Shared scale e f → Overlap scale e f
  apart own one-e one-f (x, below, in_e, in_f) =
      let own-e = ends scale e from-e in
      let own-f = ends scale f from-f in
      let first-e = column_own scale e.from own in
      let first-f = column_own scale f.from own in
      let last-e = column_own scale (end_of scale e) own in
      let last-f = column_own scale (end_of scale f) own in
      (grind arith, grind arith)

pub lanes_tell : (width : ℕ) (es : List Entry) → LanesTell width es
lanes_tell width es =
    let scale = scale_of width es in
    record {
      idle_seen = λ p x. idle scale p x es;
      busy_seen = λ p x. busy scale p x es;
      equally_long = λ p. length-lane scale es p;
      overlap_seen = λ e f among-e among-f. overlap scale e f (begun es e among-e) (begun es f among-f) (omega arith);
      apart_seen = λ own e f among-e among-f. apart scale e f (begun es e among-e) (begun es f among-f) own;
    }
