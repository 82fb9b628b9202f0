-- The lane of a processor: a byte for each column.
use Rattle.std.specs.Prelude.{ℕ, ◌-◌, cond, ◌&&◌, Option, List, [], ◌∷◌, ◌++◌, map, length, replicate, codes, decimal, ◌==◌}
use Rattle.std.specs.List.{find, range_with_len}
use Rattle.std.specs.Option.{option_map_or}
use Rattle.entries.specs.declared.entry.Call.{Call}
use Rattle.entries.specs.declared.entry.Call.TheVariants.{Put, Take, Steal}
use Rattle.entries.specs.declared.entry.Entry.{Entry}
use Rattle.lanes.specs.Scale.{column, covers}
use Rattle.lanes.specs.declared.scale.Scale.{Scale}

-- P, T or S
abbrev pub capital : Call → ℕ
capital Put = 80
capital Take = 84
capital Steal = 83

-- p, t or s
abbrev pub small : Call → ℕ
small Put = 112
small Take = 116
small Steal = 115

-- an operation at a column that it covers: its capital letter where it begins,
-- `>` at the last column of an unfinished one, else its small letter
abbrev pub drawn : Scale → Entry → ℕ → ℕ
drawn scale e x = cond (x == column scale e.from) (capital e.call) (cond (e.to == 0 && x == scale.columns - 1) 62 (small e.call))

-- the first operation of the processor that covers the column
abbrev pub first_over : Scale → ℕ → List Entry → ℕ → Option Entry
first_over scale p es x = find (λ e. e.processor == p && covers scale e x) es

-- how that one looks, or `.` where there is none
abbrev pub cell : Scale → ℕ → List Entry → ℕ → ℕ
cell scale p es x = option_map_or (λ e. drawn scale e x) (first_over scale p es x) 46

unfoldable pub cells : Scale → List Entry → ℕ → List ℕ
cells scale es p = map (cell scale p es) (range_with_len 0 scale.columns)

-- spaces up to three bytes
unfoldable pub padding : ℕ → List ℕ
padding p = replicate (3 - length (decimal p)) 32

unfoldable pub lane_text : Scale → List Entry → ℕ → List ℕ
lane_text scale es p = codes "proc=" ++ (decimal p ++ (padding p ++ (124 ∷ (cells scale es p ++ (124 ∷ 10 ∷ [])))))
