-- No stamp of an entry is past the last.
use Rattle.std.proofs.Common.{ℕ, ◌≤◌, max, List, [], ◌∷◌, map, arith}
use Rattle.std.proofs.lemmas.List.Elements.{All-nil, All-cons, All-contains}
use Rattle.std.specs.List.{All, Contains, fold}
use Rattle.entries.specs.declared.entry.Entry.{Entry}
use Rattle.lanes.specs.Scale.{latest, last_stamp_of, le-fold_max}

abbrev BegunBy : ℕ → Entry → Type 0
BegunBy last e = e.from ≤ last

all_begun : (a : ℕ) (es : List Entry) → All (BegunBy (fold max a (map latest es))) es
all_begun a [] = All-nil (BegunBy a)
all_begun a (e ∷ es) =
    let after = max a (latest e) in
    All-cons (BegunBy (fold max after (map latest es))) e es (omega (arith, le-fold_max after (map latest es))) (all_begun after es)

pub begun : (es : List Entry) (e : Entry) → Contains es e → e.from ≤ last_stamp_of es
begun es e = All-contains (BegunBy (last_stamp_of es)) es e (all_begun 1 es)
