-- How a write goes on after an access.
use Rattle.std.proofs.Common.{◌≡◌, ℕ, zero, suc, ◌+◌, ◌-◌, ◌*◌, ◌%◌, ◌^◌, ◌<◌, ◌≤◌, Bool, true, eqb, ltb, List, Some, None, Option, sym, refl, ap, ◌∙◌, add-one, arith}
use Rattle.std.specs.Int.Count.{ones, ones_step}
use Rattle.std.proofs.lemmas.Bool.{cond_both, eqb-true, eqb-false, ltb-true, ltb-false}
use Rattle.trees.specs.declared.walk.Walk.{Walk}
use Rattle.trees.specs.declared.walk.Walk.TheVariants.{Reading, Looking, Setting}
use Rattle.trees.specs.Fits.{Looker, Setter}
use Rattle.trees.specs.Switches.{switch, reach}
use Rattle.trees.specs.Walks.{node, rise, fall, climb, descend}
use Rattle.trees.specs.Reach.{levels, bounds, rises, ◌⊑◌}
use Rattle.trees.specs.Way.{node_up, node_over, top_node, rise_odd, climb_sets}

-- a write of n, after d accesses, comes to an act that keeps what it needs, or it ends with n shown
abbrev pub Goes : List Bool → ℕ → ℕ → Option Walk → Type 0
Goes t n d None = n + 127 ≤ reach 7 t 1
Goes t n d (Some (Reading k l)) = ⊥
Goes t n d (Some (Looking m l e)) = (m ≡ n) × (e ≡ d) × Looker m l e
Goes t n d (Some (Setting m l e)) = (m ≡ n) × (e ≡ d) × Setter t m l e

module _ (t : List Bool) (n : ℕ) where
  -- left of a switch that is on, n is less than what a read reaches
  passed : (l : ℕ) → node n l % 2 ≡ 0 → n + 127 ≤ reach l t (2 * node n (suc l) + 1)
  passed l e =
      let u = node_up n l in
      let f : 2 * node n (suc l) ≡ node n l = omega arith in
      omega (arith, bounds l t (2 * node n (suc l) + 1), levels l (node n (suc l)), node_over n l, ap (λ k. k * 2 ^ l) f)

  up_even : (l : ℕ) → node n l % 2 ≡ 0 → n + 127 ≤ reach l t (node n l) → n + 127 ≤ reach (suc l) t (node n (suc l))
  unfolding reach
  up_even l e h =
      let u = node_up n l in
      let f : 2 * node n (suc l) ≡ node n l = omega arith in
      cond_both (switch t (node n (suc l))) (2 * node n (suc l) + 1) (2 * node n (suc l)) (λ k. n + 127 ≤ reach l t k)
      (λ _. passed l e) (λ _. rw f h)

  -- a write stops at a switch that is on and that it would leave by the off side
  pub stops : (l : ℕ) → node n l % 2 ≡ 0 → switch t (node n (suc l)) ≡ true → n + 127 ≤ reach (suc l) t (node n (suc l))
  unfolding reach
  stops l e on = rw on (passed l e)

  -- a write that has set the switch above its node holds at that switch
  pub up_odd : (s : List Bool) (l : ℕ) → t ⊑ s → switch s (node n (suc l)) ≡ true → node n l % 2 ≡ 1 → n + 127 ≤ reach l t (node n l) → n + 127 ≤ reach (suc l) s (node n (suc l))
  unfolding reach
  up_odd s l up on e h =
      let u = node_up n l in
      let f : 2 * node n (suc l) + 1 ≡ node n l = omega arith in
      rw (on, f) (omega (arith, rises t s up l (node n l)))

  pub spent_up : (l : ℕ) → ones (node n l) ≡ node n l % 2 + ones (node n (suc l))
  spent_up l = ones_step (node n l) ∙ ap (λ k. node n l % 2 + ones k) (sym (node_up n l))

  module _ (low : 1 ≤ n) (high : n ≤ 128) (d : ℕ) where
    record Risen (r : ℕ) : Type 0 where
      few : r ≤ 7
      holds : n + 127 ≤ reach r t (node n r)
      spent : d + ones (node n r) ≤ 8
      right : r < 7 → node n r % 2 ≡ 1

    risen : (up l : ℕ) → l + up ≡ 7 → n + 127 ≤ reach l t (node n l) → d + ones (node n l) ≤ 8 → Risen (rise n l up)
    unfolding rise
    risen zero l e h s = record { few = omega arith; holds = h; spent = s; right = λ r. absurd (omega arith) }
    risen (suc up) l e h s = cond_both (eqb (node n l % 2) 1) l (rise n (l + 1) up) Risen
        (λ odd. record { few = omega arith; holds = h; spent = s; right = λ _. eqb-true _ _ odd })
        (λ even.
        let z : node n l % 2 ≡ 0 = omega (arith, eqb-false (node n l % 2) 1 even) in
        risen up (l + 1) (omega arith) (rw add-one (up_even l z h)) (rw add-one (omega (arith, spent_up l))))

    pub climbs : (l : ℕ) → l ≤ 7 → n + 127 ≤ reach l t (node n l) → d + ones (node n l) ≤ 8 → Goes t n d (climb n l d)
    unfolding climb
    climbs l g h s =
        let r = rise n l (7 - l) in
        let k = risen (7 - l) l (omega arith) h s in
        cond_both (ltb r 7) (Some (Setting n r d)) None (Goes t n d)
        (λ e. (refl, refl, record { low = low; high = high; few = ltb-true r 7 e; right = k.right (ltb-true r 7 e); holds = k.holds; spent = k.spent }))
        (λ e. let q : r ≡ 7 = omega (arith, k.few, ltb-false r 7 e) in rw (top_node n low high) at (rw q at k.holds))

    record Fallen (r : ℕ) : Type 0 where
      few : r ≤ 7
      spent : d + ones (node n r) + r ≤ 8
      left : 1 ≤ r → node n (r - 1) % 2 ≡ 0

    fallen : (l : ℕ) → l ≤ 7 → d + ones (node n l) + l ≤ 8 → Fallen (fall n l)
    unfolding fall
    fallen zero g s = record { few = g; spent = s; left = λ r. absurd (omega arith) }
    fallen (suc l) g s = cond_both (eqb (node n l % 2) 1) (fall n l) (suc l) Fallen
        (λ odd. fallen l (omega arith) (omega (arith, spent_up l, eqb-true (node n l % 2) 1 odd)))
        (λ even.
        let f : suc l - 1 ≡ l = omega arith in
        record { few = g; spent = s; left = λ _. rw f (omega (arith, eqb-false (node n l % 2) 1 even)) })

    pub descends : (l : ℕ) → l ≤ 7 → d + ones (node n l) + l ≤ 8 → Goes t n d (descend n l d)
    unfolding descend reach
    descends l g s =
        let r = fall n l in
        let k = fallen l g s in
        cond_both (eqb r 0) (climb n 0 d) (Some (Looking n r d)) (Goes t n d)
        (λ e. let z = rw (eqb-true r 0 e) at k.spent in climbs 0 (omega arith) (omega arith) (omega arith))
        (λ e. let z : 1 ≤ r = omega (arith, eqb-false r 0 e) in
        (refl, refl, record { low = low; high = high; some = z; few = k.few; left = k.left z; spent = k.spent }))

-- a write has at least one access
abbrev pub Busy : Option Walk → Type 0
Busy None = ⊥
Busy (Some w) = Unit {0}

bottom : (n l : ℕ) → fall n (suc l) ≡ 0 → node n 0 % 2 ≡ 1
unfolding fall
bottom n zero = cond_both (eqb (node n 0 % 2) 1) (fall n 0) 1 (λ r. r ≡ 0 → node n 0 % 2 ≡ 1) (λ odd _. eqb-true _ _ odd) (λ _ e. absurd (omega arith))
bottom n (suc l) = cond_both (eqb (node n (suc l) % 2) 1) (fall n (suc l)) (suc (suc l)) (λ r. r ≡ 0 → node n 0 % 2 ≡ 1) (λ _. bottom n l) (λ _ e. absurd (omega arith))

pub descend_busy : (n l d : ℕ) → Busy (descend n (suc l) d)
unfolding descend
descend_busy n l d = cond_both (eqb (fall n (suc l)) 0) (climb n 0 d) (Some (Looking n (fall n (suc l)) d)) Busy
    (λ e. rw (climb_sets n 0 d 0 (rise_odd n 0 (omega arith) (bottom n l (eqb-true _ _ e))) (omega arith)) tt)
    (λ _. tt)
