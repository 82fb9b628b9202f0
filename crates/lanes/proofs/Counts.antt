-- One number more of a loop that counts from 0.
use Rattle.std.proofs.Common.{◌≡◌, ℕ, ◌+◌, List, [], ◌∷◌, ◌++◌, map, sym, ap, ◌∙◌, append-nil, arith}
use Rattle.std.proofs.lemmas.List.Concat.{flat_map-append}
use Rattle.std.proofs.lemmas.List.FromFn.{map-range_with_len_more}
use Rattle.std.proofs.lemmas.List.Folds.{flat_map-map}
use Rattle.std.specs.List.{range_with_len, flat_map}

pub flat_map-range_more : (f : ℕ → List ℕ) (n : ℕ) → flat_map f (range_with_len 0 (n + 1)) ≡ flat_map f (range_with_len 0 n) ++ f n
flat_map-range_more f n =
    sym (flat_map-map (λ l. l) f (range_with_len 0 (n + 1)))
    ∙ ap (flat_map (λ l. l)) (map-range_with_len_more f 0 n n (omega arith))
    ∙ flat_map-append (λ l. l) (map f (range_with_len 0 n)) (f n ∷ [])
    ∙ simp (append-nil, flat_map-map)
