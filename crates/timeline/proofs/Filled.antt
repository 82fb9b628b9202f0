-- A buffer of just the report's length takes the report whole.
use Rattle.std.proofs.Common.{◌≡◌, ℕ, ◌+◌, ◌-◌, ◌^◌, ◌<◌, min, true, List, ◌++◌, length, ap, ◌∙◌, append-nil, arith}
use Rattle.std.proofs.lemmas.List.{drop_all}
use Rattle.std.proofs.lemmas.Bool.{cond-true, le-leb}
use Rattle.text.specs.Written.{written}
use Rattle.lanes.specs.Report.{fits, report_buffer}

written_all : (t out : List ℕ) → length out ≡ length t → written out 0 t ≡ t
unfolding written
written_all t out long = ap (λ l. t ++ l) (drop_all (0 + length t) out (omega arith)) ∙ append-nil t

module _ (t out : List ℕ) (long : length out ≡ min (length t) (2 ^ 64 - 1)) (bound : length out < 2 ^ 64 - 1) where
  taken : fits t (length out) ≡ true
  taken = le-leb _ _ (omega arith)

  pub all_written : report_buffer t out ≡ t
  all_written = cond-true _ _ _ taken ∙ written_all t out (omega arith)
