-- How stamps lie on the columns of a lane, and which columns an operation covers.
use Rattle.std.specs.Prelude.{ℕ, ◌-◌, ◌*◌, ◌/◌, ◌≤◌, min, max, Bool, cond, ◌&&◌, List, [], ◌∷◌, map, fold, ◌==◌, nat_le}
use Rattle.std.proofs.Common.{arith}
use Rattle.entries.specs.declared.entry.Entry.{Entry}
use Rattle.lanes.specs.declared.scale.Scale.{Scale}

-- the largest stamp of an entry
abbrev pub latest : Entry → ℕ
latest e = max e.from (max e.mark e.to)

-- the largest stamp of all entries, at least 1
abbrev pub last_stamp_of : List Entry → ℕ
last_stamp_of es = fold max 1 (map latest es)

pub le-fold_max : (a : ℕ) (ns : List ℕ) → a ≤ fold max a ns
le-fold_max a [] = omega arith
le-fold_max a (n ∷ ns) = omega (arith, le-fold_max (max a n) ns)

-- the columns that a terminal has room for, of a width that counts as 20 at least and 1,000 at most
abbrev pub room_of : ℕ → ℕ
room_of width = max 20 (min width 1000) - 10

abbrev pub scale_of : ℕ → List Entry → Scale
scale_of width es = record { last = last_stamp_of es; columns = min (last_stamp_of es) (room_of width); from_one = le-fold_max 1 (map latest es) }

-- the column of a stamp, from 0
unfoldable pub column : Scale → ℕ → ℕ
column scale stamp = (stamp - 1) * scale.columns / scale.last

-- the stamp up to which an operation goes on: the last one, if it is unfinished
abbrev pub end_of : Scale → Entry → ℕ
end_of scale e = cond (e.to == 0) scale.last (max e.from e.to)

abbrev pub covers : Scale → Entry → ℕ → Bool
covers scale e x = nat_le (column scale e.from) x && nat_le x (column scale (end_of scale e))
