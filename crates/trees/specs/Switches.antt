-- A table of switches as a tree. Node 1 is the top, and below node k lie 2 k, where its switch is off, and 2 k + 1, where
-- it is on. Seven switches lie above every leaf, 128 to 255, and leaf k stands for the number k - 127.
use Rattle.std.specs.Prelude.{ℕ, zero, suc, ◌+◌, ◌-◌, ◌*◌, Bool, false, cond, List, slice_index_or}

-- whether the switch of node k is on
abbrev pub switch : List Bool → ℕ → Bool
switch t k = slice_index_or t k false

-- the node below k on the side that its switch shows
abbrev pub child : Bool → ℕ → ℕ
child on k = cond on (2 * k + 1) (2 * k)

-- the leaf that a read running alone reaches from node k, with l switches left
unfoldable pub reach : ℕ → List Bool → ℕ → ℕ
reach zero t k = k
reach (suc l) t k = reach l t (child (switch t k) k)

-- the number that the switches show
abbrev pub shown : List Bool → ℕ
shown t = reach 7 t 1 - 127
