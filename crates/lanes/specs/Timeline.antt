-- The text of a timeline: the header line, the operations of each processor, and their lanes.
use Rattle.std.specs.Prelude.{ℕ, List, ◌++◌, take, codes, decimal}
use Rattle.std.specs.List.{range_with_len, flat_map}
use Rattle.entries.specs.declared.entry.Entry.{Entry}
use Rattle.record.specs.Header.{header_text}
use Rattle.entries.specs.HeaderWords.{job_kind}
use Rattle.entries.specs.declared.header.Header.{Header}
use Rattle.lanes.specs.Lane.{lane_text}
use Rattle.lanes.specs.Listing.{listing}
use Rattle.lanes.specs.Scale.{scale_of}
use Rattle.lanes.specs.declared.scale.Scale.{Scale}

unfoldable pub title : Scale → List ℕ
title scale = codes "lanes: stamps 1 to " ++ (decimal scale.last ++ (codes " in " ++ (decimal scale.columns ++ codes " columns\n")))

-- processor by processor
unfoldable pub lanes_text : Scale → List Entry → ℕ → List ℕ
lanes_text scale es processors = flat_map (lane_text scale es) (range_with_len 0 processors)

unfoldable pub drawing : Header → List Entry → Scale → List ℕ
drawing h es scale = header_text h ++ (listing (job_kind h.job) es h.processors ++ (title scale ++ lanes_text scale es h.processors))

-- the first 65,535 entries are shown
unfoldable pub timeline_text : Header → List Entry → ℕ → List ℕ
timeline_text h es width = drawing h (take 65535 es) (scale_of width (take 65535 es))
