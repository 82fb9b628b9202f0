-- What a search of the levels finds, and the level that a write comes to by it.
use Rattle.std.proofs.Common.{◌≡◌, ℕ, zero, suc, ◌+◌, ◌-◌, ◌%◌, ◌<◌, ◌≤◌, Bool, true, false, IfSome, MatchOption, List, [], ◌∷◌, Some, None, Option, sym, ap, ◌∙◌, subst, unwrap_or, ⊎_elim, arith}
use denote.Ref.{Bor}
use denote.Param.Members.{Mut}
use Rattle.std.proofs.iter.runs.Sources.{nat_range_steps_back}
use Rattle.std.proofs.lemmas.Bool.{cases_eq}
use Rattle.std.specs.declared.iter.Rev.{Rev}
use Rattle.std.specs.declared.ops.Range.{Range}
use Rattle.std.specs.Fn.{CalledAt}
use Rattle.std.specs.Iterator.{Yields, YieldsThen}
use Rattle.std.specs.Iterator.Adapters.{rev_steps}
use Rattle.std.specs.List.{FoldsTo}
use Rattle.trees.specs.Walks.{node, rise, fall}
use Rattle.trees.specs.Way.{rise_even, rise_odd, rise_top, fall_odd, fall_even, fall_end}

rise_to : (n gap from l : ℕ) → from + gap ≡ l → l ≤ 7 → (l < 7 → node n l % 2 ≡ 1) → ((k : ℕ) → from ≤ k → k < l → node n k % 2 ≡ 0) → rise n from (7 - from) ≡ l
rise_to n zero from l e h odd even =
    let f : l ≡ from = omega arith in
    ⊎_elim (λ top. rise_top n from (omega arith) ∙ omega arith) (λ ne. rise_odd n from (omega arith) (rw f at (odd (omega arith))) ∙ omega arith) (cases_eq l 7)
rise_to n (suc gap) from l e h odd even =
    rise_even n from (omega arith) (even from (omega arith) (omega arith)) ∙ rise_to n gap (from + 1) l (omega arith) h odd (λ k a. even k (omega arith))

-- `rise` ends at the first odd node from a level up, if there is one
pub rise_ends : (n from : ℕ) (r : Option ℕ) → from ≤ 7
    → MatchOption r ((k : ℕ) → from ≤ k → k < 7 → node n k % 2 ≡ 0) (λ l. (from ≤ l) × (l < 7) × (node n l % 2 ≡ 1) × ((k : ℕ) → from ≤ k → k < l → node n k % 2 ≡ 0))
    → rise n from (7 - from) ≡ unwrap_or r 7
rise_ends n from None h even = rise_to n (7 - from) from 7 (omega arith) (omega arith) (λ z. absurd (omega arith)) even
rise_ends n from (Some l) h (up, few, odd, even) = rise_to n (l - from) from l (omega arith) (omega arith) (λ z. odd) even

fall_to : (n gap from l : ℕ) → l + gap ≡ from → ((k : ℕ) → k + 1 ≡ l → node n k % 2 ≡ 0) → ((k : ℕ) → l ≤ k → k < from → node n k % 2 ≡ 1) → fall n from ≡ l
fall_to n zero from l e even odd =
    ⊎_elim (λ end. fall_end n from (omega arith) ∙ omega arith) (λ ne. fall_even n from (omega arith) (even (from - 1) (omega arith)) ∙ omega arith) (cases_eq l 0)
fall_to n (suc gap) from l e even odd =
    fall_odd n from (omega arith) (odd (from - 1) (omega arith) (omega arith)) ∙ fall_to n gap (from - 1) l (omega arith) even (λ k a b. odd k a (omega arith))

-- `fall` ends above the last even node below a level, if there is one
pub fall_ends : (n from v : ℕ) (r : Option ℕ) → MatchOption r (v ≡ 0) (λ l. v ≡ l + 1)
    → MatchOption r ((k : ℕ) → k < from → node n k % 2 ≡ 1) (λ l. (l < from) × (node n l % 2 ≡ 0) × ((k : ℕ) → l < k → k < from → node n k % 2 ≡ 1))
    → fall n from ≡ v
fall_ends n from v None is odd = fall_to n from from 0 (omega arith) (λ k e. absurd (omega arith)) (λ k a b. odd k b) ∙ omega arith
fall_ends n from v (Some l) is (below, even, odd) =
    fall_to n (from - (l + 1)) from (l + 1) (omega arith) (λ k e. let f : k ≡ l = omega arith in rw f even) (λ k a b. odd k (omega arith) b) ∙ omega arith

-- `find` over a range from its end down, said of the numbers in it
module _ {F : Type 0} {g : Mut F (Bor ℕ × Unit {0}) Bool} (f : F) (Yes No : ℕ → Type 0)
    (yes : (x : ℕ) (q : F) → CalledAt g f x true q → Yes x) (no : (x : ℕ) (q : F) → CalledAt g f x false q → (q ≡ f) × No x) where
  passed_over : (s t : Rev (Range ℕ)) (xs : List ℕ) (j : F) → Yields (rev_steps nat_range_steps_back) s xs t → FoldsTo (λ p x q. CalledAt g p x false q) f xs j
      → (j ≡ f) × (t.iter.start ≡ s.iter.start) × (t.iter.end ≤ s.iter.end) × ((k : ℕ) → t.iter.end ≤ k → k < s.iter.end → No k)
  passed_over s t [] j y c =
      let e : t.iter.end ≡ s.iter.end = ap (λ (r : Rev (Range ℕ)). r.iter.end) (sym y) in
      (sym c, ap (λ (r : Rev (Range ℕ)). r.iter.start) (sym y), omega arith, λ k a b. absurd (omega arith))
  passed_over s t (x ∷ xs) j (m, (start, (some, is, end)), y) (q, call, c) =
      let (same, none) = no x q call in
      let (kept, first, below, all) = passed_over m t xs j y (subst (λ p. FoldsTo (λ p' x' q'. CalledAt g p' x' false q') p xs j) same c) in
      (kept, first ∙ start, omega arith, λ k a b. ⊎_elim (λ e. subst No (omega arith) none) (λ ne. all k a (omega arith)) (cases_eq k x))

  pub last_from_Range : (n : ℕ) (s u : Rev (Range ℕ)) (r : Option ℕ) → s.iter ≡ record { start = 0; end = n }
      → (xs : List ℕ) × (j : F) × YieldsThen (rev_steps nat_range_steps_back) s xs r u × FoldsTo (λ p x q. CalledAt g p x false q) f xs j × IfSome r (λ x. (h : F) × CalledAt g j x true h)
      → MatchOption r ((k : ℕ) → k < n → No k) (λ i. (i < n) × Yes i × ((k : ℕ) → i < k → k < n → No k))
  last_from_Range n s u None is (xs, j, (t, y, (start, (empty, end))), c, found) =
      let (kept, first, below, all) = passed_over s t xs j y c in
      let from = ap (λ (w : Range ℕ). w.start) is in
      let to = ap (λ (w : Range ℕ). w.end) is in
      λ k a. all k (omega arith) (omega arith)
  last_from_Range n s u (Some i) is (xs, j, (t, y, (start, (some, at, end))), c, (h, call)) =
      let (kept, first, below, all) = passed_over s t xs j y c in
      let to = ap (λ (w : Range ℕ). w.end) is in
      (omega arith, yes i h (subst (λ p. CalledAt g p i true h) kept call), λ k a b. all k (omega arith) (omega arith))
