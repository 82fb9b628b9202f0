-- What the lanes tell of the entries that they are drawn from.
use Rattle.std.specs.Prelude.{◌≡◌, ℕ, ◌+◌, ◌<◌, ◌≤◌, true, List, All, Contains, length, ◌≢◌}
use Rattle.entries.specs.declared.entry.Entry.{Entry}
use Rattle.lanes.specs.Lane.{cell, lane_text}
use Rattle.lanes.specs.Scale.{scale_of, end_of, covers}
use Rattle.lanes.specs.declared.scale.Scale.{Scale}

-- no operation of the processor covers the column
abbrev pub Idle : Scale → ℕ → List Entry → ℕ → Type 0
Idle scale p es x = All (λ e. e.processor ≡ p → covers scale e x ≢ true) es

-- neither of two operations begins after the other ends
abbrev pub Overlap : Scale → Entry → Entry → Type 0
Overlap scale e f = (e.from ≤ end_of scale f) × (f.from ≤ end_of scale e)

-- a column of the lanes that both cover
abbrev pub Shared : Scale → Entry → Entry → Type 0
Shared scale e f = (x : ℕ) × (x < scale.columns) × (covers scale e x ≡ true) × (covers scale f x ≡ true)

pub record LanesTell (width : ℕ) (es : List Entry) : Type 0 where
  -- `.` stands where the processor is idle,
  pub idle_seen : (p x : ℕ) → Idle (scale_of width es) p es x → cell (scale_of width es) p es x ≡ 46
  -- and nowhere else
  pub busy_seen : (p x : ℕ) → cell (scale_of width es) p es x ≡ 46 → Idle (scale_of width es) p es x
  -- the lanes of the processors below 1,000 are equally long: the columns, and 11 bytes with the newline
  pub equally_long : (p : ℕ) → p < 1000 → length (lane_text (scale_of width es) es p) ≡ (scale_of width es).columns + 11
  -- operations that overlap in time share a column
  pub overlap_seen : (e f : Entry) → Contains es e → Contains es f → Overlap (scale_of width es) e f → Shared (scale_of width es) e f
  -- where every stamp has a column of its own, begun operations that share one overlap in time
  pub apart_seen : (scale_of width es).columns ≡ (scale_of width es).last → (e f : Entry) → Contains es e → Contains es f → 1 ≤ e.from → 1 ≤ f.from → Shared (scale_of width es) e f → Overlap (scale_of width es) e f
