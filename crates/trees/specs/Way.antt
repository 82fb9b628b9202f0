-- The nodes on the way to the leaf of a number.
use Rattle.std.proofs.Common.{◌≡◌, ℕ, zero, suc, ◌+◌, ◌-◌, ◌*◌, ◌/◌, ◌%◌, ◌^◌, ◌<◌, ◌≤◌, eqb, Some, None, sym, ap, ◌∙◌, mul-le-mul_right, add-one, arith}
use Rattle.std.proofs.lemmas.Bool.{cond-true, cond-false, eq-eqb, ne_eqb, lt-ltb, le-ltb}
use Rattle.std.specs.Int.Count.{ones, ones_step, ones-ones}
use Rattle.std.proofs.lemmas.Nat.{pow_pos, pow_below, shr-shr, shr_split, mod_below, div_below}
use Rattle.trees.specs.Walks.{node, rise, fall, climb, descend}
use Rattle.trees.specs.declared.walk.Walk.TheVariants.{Setting, Looking}
use Rattle.trees.specs.Reach.{levels}

pub node_up : (n l : ℕ) → node n (suc l) ≡ node n l / 2
node_up n l = sym (shr-shr (n + 127) l 1 ∙ ap (λ k. (n + 127) / 2 ^ k) (add-one l))

-- n lies below its node
pub node_over : (n l : ℕ) → (node n l * 2 ^ l ≤ n + 127) × (n + 127 < node n l * 2 ^ l + 2 ^ l)
node_over n l = let h = shr_split (n + 127) l in let i = mod_below (n + 127) (2 ^ l) (pow_pos l) in omega arith

-- what holds at the top and, with it at a level, at the one below, holds at every level
pub from_top : (P : ℕ → Type 0) → P 7 → ((l : ℕ) → l < 7 → P (suc l) → P l) → (up l : ℕ) → l + up ≡ 7 → P l
from_top P top down zero l e = let f : l ≡ 7 = omega arith in rw f top
from_top P top down (suc up) l e = down l (omega arith) (from_top P top down up (suc l) (omega arith))

module _ (n : ℕ) (low : 1 ≤ n) (high : n ≤ 128) where
  pub top_node : node n 7 ≡ 1
  top_node = omega arith

  pub node_deep : (l : ℕ) → l ≤ 7 → 128 ≤ node n l * 2 ^ l
  node_deep l h = from_top (λ j. 128 ≤ node n j * 2 ^ j) (omega arith)
      (λ j g i. let u = node_up n j in let v = levels j (node n (suc j)) in
      let w = mul-le-mul_right {m = 2 * node n (suc j)} {n = node n j} (2 ^ j) (omega arith) in omega arith)
      (7 - l) l (omega arith)

  pub ones_node : (l : ℕ) → l ≤ 7 → 1 ≤ ones (node n l)
  ones_node l h = from_top (λ j. 1 ≤ ones (node n j)) (rw top_node (omega (arith, ones-ones 1)))
      (λ j g i. let u = ap ones (node_up n j) in omega (arith, ones_step (node n j)))
      (7 - l) l (omega arith)

  pub node_index : (l : ℕ) → 1 ≤ l → node n l < 128
  node_index l h = let p = pow_below 0 l (omega arith) in div_below (n + 127) (2 ^ l) 128 (pow_pos l) (omega arith)

-- the level that a write comes to on its way up
module _ (n l : ℕ) (h : l < 7) where
  more_up : 7 - l ≡ suc (7 - (l + 1))
  more_up = omega arith

  pub rise_even : node n l % 2 ≡ 0 → rise n l (7 - l) ≡ rise n (l + 1) (7 - (l + 1))
  unfolding rise
  rise_even e = rw (more_up, ne_eqb (node n l % 2) 1 (omega arith))

  pub rise_odd : node n l % 2 ≡ 1 → rise n l (7 - l) ≡ l
  unfolding rise
  rise_odd e = rw (more_up, eq-eqb (node n l % 2) 1 e)

pub rise_top : (n l : ℕ) → l ≡ 7 → rise n l (7 - l) ≡ 7
unfolding rise
rise_top n l e = rw e

pub climb_sets : (n from d l : ℕ) → rise n from (7 - from) ≡ l → l < 7 → climb n from d ≡ Some (Setting n l d)
unfolding climb
climb_sets n from d l e h = rw (e, lt-ltb l 7 h)

pub climb_ends : (n from d l : ℕ) → rise n from (7 - from) ≡ l → 7 ≤ l → climb n from d ≡ None
unfolding climb
climb_ends n from d l e h = rw (e, le-ltb l 7 h)

-- the level that a write comes to on its way down
module _ (n l : ℕ) (h : 1 ≤ l) where
  more_down : l ≡ suc (l - 1)
  more_down = omega arith

  pub fall_odd : node n (l - 1) % 2 ≡ 1 → fall n l ≡ fall n (l - 1)
  unfolding fall
  fall_odd e = ap (fall n) more_down ∙ cond-true (eqb (node n (l - 1) % 2) 1) (fall n (l - 1)) (suc (l - 1)) (eq-eqb _ _ e)

  pub fall_even : node n (l - 1) % 2 ≡ 0 → fall n l ≡ l
  unfolding fall
  fall_even e = ap (fall n) more_down ∙ cond-false (eqb (node n (l - 1) % 2) 1) (fall n (l - 1)) (suc (l - 1)) (ne_eqb _ _ (omega arith)) ∙ sym more_down

pub fall_end : (n l : ℕ) → l ≡ 0 → fall n l ≡ 0
unfolding fall
fall_end n l e = rw e

pub descend_looks : (n from d l : ℕ) → fall n from ≡ l → 1 ≤ l → descend n from d ≡ Some (Looking n l d)
unfolding descend
descend_looks n from d l e h = rw (e, ne_eqb l 0 (omega arith))

pub descend_turns : (n from d : ℕ) → fall n from ≡ 0 → descend n from d ≡ climb n 0 d
unfolding descend
descend_turns n from d e = rw e
