-- The column of a stamp: later stamps are not to the left, and every stamp has a column of the lane.
use Rattle.std.proofs.Common.{◌≡◌, ℕ, ◌-◌, ◌*◌, ◌/◌, ◌<◌, ◌≤◌, ap, ◌∙◌, mul_comm, mul-lt-mul_of_pos_right, div-mul-le_self, mul-div_cancel, arith}
use Rattle.std.proofs.lemmas.Nat.{mul-le, le-div, div_below}
use Rattle.lanes.specs.Scale.{column}
use Rattle.lanes.specs.declared.scale.Scale.{Scale}

module _ (scale : Scale) where
  pub column_mono : (s t : ℕ) → s ≤ t → column scale s ≤ column scale t
  unfolding column
  column_mono s t h =
      le-div _ _ scale.last (omega arith)
      (omega (arith, div-mul-le_self ((s - 1) * scale.columns) scale.last, mul-le (s - 1) scale.columns (t - 1) scale.columns (omega arith) (omega arith)))

  pub column_below : (s : ℕ) → 1 ≤ scale.columns → s ≤ scale.last → column scale s < scale.columns
  unfolding column
  column_below s wide h =
      let before : s - 1 < scale.last = omega arith in
      div_below _ scale.last scale.columns (omega arith)
      (omega (arith, mul-lt-mul_of_pos_right {k = scale.columns} before (omega arith), mul_comm scale.last scale.columns))

  pub column_own : (s : ℕ) → scale.columns ≡ scale.last → column scale s ≡ s - 1
  unfolding column
  column_own s e = ap (λ n. (s - 1) * n / scale.last) e ∙ mul-div_cancel (s - 1) (omega arith)
