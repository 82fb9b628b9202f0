-- Laws of `written`.
use Rattle.std.specs.Prelude.{◌≡◌, ℕ, ◌+◌, ◌<◌, ◌≤◌, List, [], ◌∷◌, ◌++◌, length, take, drop, slice_set}
use Rattle.std.proofs.Common.{sym, ap, ◌∙◌, append_assoc, add_assoc, add-zero, add-one, arith, length-append, length-take, length-drop, take-append-drop, length-take-le}
use Rattle.std.proofs.lemmas.List.{take_at, drop_at, set_split, drop-drop}
use Rattle.text.specs.Written.{written}

pub length-written : {X : Type 0} (out : List X) (at : ℕ) (bs : List X) → at + length bs ≤ length out → length (written out at bs) ≡ length out
unfolding written
length-written out at bs fits = simp (length-append, length-take, length-drop) (omega arith)

pub written_none : {X : Type 0} (out : List X) (at : ℕ) → written out at [] ≡ out
unfolding written
written_none out at = ap (λ n. take at out ++ drop n out) (add-zero at) ∙ take-append-drop at out

pub written_one : {X : Type 0} (out : List X) (at : ℕ) (b : X) → at < length out → slice_set out at b ≡ written out at (b ∷ [])
unfolding written
written_one out at b within = rw (set_split out at b within, ← add-one at)

take-written : {X : Type 0} (out : List X) (at : ℕ) (bs : List X) → at + length bs ≤ length out → take (at + length bs) (written out at bs) ≡ take at out ++ bs
unfolding written
take-written out at bs fits =
    ap (take (at + length bs)) (sym (append_assoc (take at out) bs _))
    ∙ take_at (take at out ++ bs) _ _ (length-append (take at out) bs ∙ ap (λ n. n + length bs) (length-take-le at out (omega arith)))

drop-written : {X : Type 0} (out : List X) (at : ℕ) (bs : List X) (k : ℕ) → at + length bs ≤ length out → drop (at + length bs + k) (written out at bs) ≡ drop (at + length bs + k) out
unfolding written
drop-written out at bs k fits =
    sym (drop-drop k (at + length bs) _)
    ∙ ap (drop k) (
    ap (drop (at + length bs)) (sym (append_assoc (take at out) bs _))
    ∙ drop_at (take at out ++ bs) _ _ (length-append (take at out) bs ∙ ap (λ n. n + length bs) (length-take-le at out (omega arith))))
    ∙ drop-drop k (at + length bs) out

-- one write after another
pub written_more : {X : Type 0} (out : List X) (at : ℕ) (xs ys : List X) → at + length xs + length ys ≤ length out → written (written out at xs) (at + length xs) ys ≡ written out at (xs ++ ys)
unfolding written
written_more out at xs ys fits =
    let front = take-written out at xs (omega arith) in
    let back = drop-written out at xs (length ys) (omega arith) in
    ap (λ l. l ++ (ys ++ drop (at + length xs + length ys) (written out at xs))) front
    ∙ ap (λ l. (take at out ++ xs) ++ (ys ++ l)) back
    ∙ append_assoc (take at out) xs _
    ∙ ap (λ l. take at out ++ l) (sym (append_assoc xs ys _) ∙ ap (λ n. (xs ++ ys) ++ drop n out) (add_assoc at (length xs) (length ys) ∙ ap (λ n. at + n) (sym (length-append xs ys))))

-- what was written from the start
pub take_front : {X : Type 0} (out bs : List X) → length bs ≤ length out → take (length bs) (written out 0 bs) ≡ bs
take_front out bs fits =
    let same : length bs ≡ 0 + length bs = omega arith in
    ap (λ n. take n (written out 0 bs)) same ∙ take-written out 0 bs (omega arith)
