-- One access of a walk, or a begin: nothing that the tree keeps is lost.
use Rattle.std.proofs.Common.{◌≡◌, ℕ, zero, suc, ◌+◌, ◌-◌, ◌*◌, ◌%◌, ◌^◌, ◌<◌, ◌≤◌, Bool, true, false, ltb, ◌⊎◌, List, [], ◌∷◌, length, set, Some, None, Option, sym, refl, ap, ◌∙◌, subst, inl, inr, ⊎_elim, mul-le-mul_left, add-one, arith, length-set, get_or-set_other, get_or-set_same, pow_mono}
use Rattle.std.specs.Int.Count.{ones, ones-ones}
use Rattle.std.proofs.lemmas.Bool.{cond_both, cases_eq, cases_order, ltb-true}
use Rattle.registers.specs.Meaning.{asked, busy, writing}
use Rattle.registers.specs.Operations.{doing_of}
use Rattle.trees.specs.declared.walk.Walk.{Walk}
use Rattle.trees.specs.declared.walk.Walk.TheVariants.{Reading, Looking, Setting}
use Rattle.trees.specs.Fits.{Capped, Reader, Looker, Setter, Fit}
use Rattle.trees.specs.Switches.{switch, child, reach, shown}
use Rattle.trees.specs.Tree.{tree_floor}
use Rattle.trees.specs.Walks.{node, climb, descend, next, switches_after, seen, goes_on, walk_op}
use Rattle.trees.specs.Reach.{levels, bounds, rises, below, ◌⊑◌}
use Rattle.trees.specs.Way.{node_up, node_over, node_deep, node_index, top_node}
use Rattle.trees.specs.Goes.{Goes, Busy, stops, up_odd, spent_up, climbs, descends}

-- a switch that is set leaves the others as they were
pub set_on : (t : List Bool) (k : ℕ) → t ⊑ set t k true
set_on [] k j h = h
set_on (x ∷ xs) zero zero h = refl
set_on (x ∷ xs) zero (suc j) h = h
set_on (x ∷ xs) (suc k) zero h = h
set_on (x ∷ xs) (suc k) (suc j) h = set_on xs k j h

-- switches that others set disturb no walk, and lower no floor
pub fit_up : (s t : List Bool) → s ⊑ t → (o : Option Walk) → Fit s o → Fit t o
fit_up s t up None f = f
fit_up s t up (Some (Reading k l)) f = record { some = f.some; few = f.few; deep = f.deep; reached = omega (arith, f.reached, rises s t up 7 1) }
fit_up s t up (Some (Looking n l d)) f = f
fit_up s t up (Some (Setting n l d)) f = record { low = f.low; high = f.high; few = f.few; right = f.right; holds = omega (arith, f.holds, rises s t up l (node n l)); spent = f.spent }

pub floor_up : (s t : List Bool) → s ⊑ t → (o : Option Walk) → tree_floor s o ≤ tree_floor t o
floor_up s t up None = omega (arith, rises s t up 7 1)
floor_up s t up (Some (Reading k l)) = omega (arith, rises s t up l k)
floor_up s t up (Some (Looking n l d)) = omega (arith, rises s t up 7 1)
floor_up s t up (Some (Setting n l d)) = omega (arith, rises s t up 7 1)

-- no floor is above what is shown
pub floor_below : (t : List Bool) (o : Option Walk) → Fit t o → tree_floor t o ≤ shown t
floor_below t None f = omega arith
floor_below t (Some (Reading k l)) f = omega (arith, below 7 l t 1 k f.few f.reached)
floor_below t (Some (Looking n l d)) f = omega arith
floor_below t (Some (Setting n l d)) f = omega arith

-- the walk o has become q, and the switches s: what is kept under the ceiling c
pub record After (t : List Bool) (c : ℕ) (o : Option Walk) (s : List Bool) (q : Option Walk) : Type 0 where
  pub up : t ⊑ s
  pub wide : length s ≡ length t
  pub caps : Capped s c
  pub fit : Fit s q
  pub ends : (asked (doing_of walk_op q) ≡ asked (doing_of walk_op o)) ⊎ ((asked (doing_of walk_op q) ≡ 0) × (asked (doing_of walk_op o) ≤ shown s))
  pub floors : tree_floor t o ≤ tree_floor s q

-- how a write goes on
pub goes_fit : (t : List Bool) (n d : ℕ) (o : Option Walk) → Goes t n d o → Fit t o
goes_fit t n d None g = tt
goes_fit t n d (Some (Reading k l)) g = absurd g
goes_fit t n d (Some (Looking m l e)) g = g.2
goes_fit t n d (Some (Setting m l e)) g = g.2

pub goes_ends : (t : List Bool) (n d : ℕ) (o : Option Walk) → Goes t n d o → (asked (doing_of walk_op o) ≡ n) ⊎ ((asked (doing_of walk_op o) ≡ 0) × (n ≤ shown t))
goes_ends t n d None g = inr (refl, omega arith)
goes_ends t n d (Some (Reading k l)) g = absurd g
goes_ends t n d (Some (Looking m l e)) g = inl g.0
goes_ends t n d (Some (Setting m l e)) g = inl g.0

pub goes_asked : (t : List Bool) (n d : ℕ) (o : Option Walk) → Goes t n d o → asked (doing_of walk_op o) ≤ n
goes_asked t n d o g = omega (arith, goes_ends t n d o g)

pub goes_floor : (t : List Bool) (n d : ℕ) (o : Option Walk) → Goes t n d o → shown t ≤ tree_floor t o
goes_floor t n d None g = omega arith
goes_floor t n d (Some (Reading k l)) g = absurd g
goes_floor t n d (Some (Looking m l e)) g = omega arith
goes_floor t n d (Some (Setting m l e)) g = omega arith

pub goes_writing : (t : List Bool) (n d : ℕ) (o : Option Walk) → Goes t n d o → Busy o → doing_of walk_op o ≡ busy (writing n d)
goes_writing t n d None g b = absurd b
goes_writing t n d (Some (Reading k l)) g b = absurd g
goes_writing t n d (Some (Looking m l e)) g b = let p = g.0 in let q = g.1 in cc
goes_writing t n d (Some (Setting m l e)) g b = let p = g.0 in let q = g.1 in cc

-- a node lies at one level
unique : (k j l : ℕ) → 128 ≤ k * 2 ^ j → k * 2 ^ j < 256 → 128 ≤ k * 2 ^ l → k * 2 ^ l < 256 → j ≡ l
unique k j l p q r s = ⊎_elim (λ e. e)
    (⊎_elim
    (λ lt. absurd (omega (arith, levels j k, mul-le-mul_left {m = 2 ^ suc j} {n = 2 ^ l} k (pow_mono lt))))
    (λ gt. absurd (omega (arith, levels l k, mul-le-mul_left {m = 2 ^ suc l} {n = 2 ^ j} k (pow_mono gt)))))
    (cases_order j l)

module _ (t : List Bool) (c : ℕ) (wide : length t ≡ 128) (small : c ≤ 128) (caps : Capped t c) where
  same : t ⊑ t
  same k h = h

  read_on : (k l : ℕ) → Reader t k l → 1 < l → Reader t (child (switch t k) k) (l - 1)
  unfolding reach
  read_on k l f more =
      let m = l - 1 in
      let e : l ≡ suc m = omega arith in
      let deep = rw e at f.deep in
      let reached = rw e at f.reached in
      let v = levels m k in
      let w = below 7 (suc m) t 1 k (omega (arith, f.few)) reached in
      record {
        some = omega arith;
        few = omega (arith, f.few);
        deep = cond_both (switch t k) (2 * k + 1) (2 * k) (λ j. 128 ≤ j * 2 ^ m) (λ _. omega arith) (λ _. omega arith);
        reached = omega (arith, bounds m t (child (switch t k) k));
      }

  set_caps : (n l : ℕ) → 1 ≤ n → n ≤ 128 → n ≤ c → l < 7 → node n l % 2 ≡ 1 → Capped (set t (node n (suc l)) true) c
  set_caps n l low high under few odd j k o =
      let p = node n (suc l) in
      ⊎_elim
      (λ e.
      let d = rw e at o.deep in
      let h = rw e at o.high in
      let q = node_over n (suc l) in
      let u : suc j ≡ suc l = unique p (suc j) (suc l) d h (node_deep n low high (suc l) (omega arith)) (omega arith) in
      let v : j ≡ l = omega arith in
      let w = node_up n l in
      let f : 2 * p + 1 ≡ node n l = omega arith in
      rw (e, v, f) (omega (arith, node_over n l)))
      (λ ne. caps j k (record { deep = o.deep; high = o.high; on = sym (get_or-set_other t p k true false ne) ∙ o.on }))
      (cases_eq k p)

  reach_down : (k l : ℕ) → 1 < l → reach l t k ≡ reach (l - 1) t (child (switch t k) k)
  unfolding reach
  reach_down k l h = let e : l ≡ suc (l - 1) = omega arith in ap (λ j. reach j t k) e

  -- a write of n goes on, with switches s
  writes : (w : Walk) (n d : ℕ) (s : List Bool) (q : Option Walk) → asked (busy (walk_op w)) ≡ n → tree_floor t (Some w) ≡ shown t → t ⊑ s → length s ≡ length t → Capped s c → Goes s n d q
      → After t c (Some w) s q
  writes w n d s q asks floor up wide caps g = record {
    up = up;
    wide = wide;
    caps = caps;
    fit = goes_fit s n d q g;
    ends = rw asks (goes_ends s n d q g);
    floors = omega (arith, goes_floor s n d q g, rises t s up 7 1);
  }

  pub looks_on : (n l d : ℕ) → Looker n l d → Goes t n (d + 1) (goes_on (Looking n l d) (switch t (node n l)))
  looks_on n l d f =
      let m = l - 1 in
      let some = f.some in
      let e : l ≡ suc m = omega arith in
      let z = f.left in
      let spent = f.spent in
      let u : ones (node n l) ≡ ones (node n (suc m)) = ap (λ j. ones (node n j)) e in
      let v = spent_up t n m in
      cond_both (switch t (node n l)) (climb n l (d + 1)) (descend n m (d + 1)) (Goes t n (d + 1))
      (λ on. climbs t n f.low f.high (d + 1) l f.few (rw e (stops t n m z (rw e at on))) (omega arith))
      (λ off. descends t n f.low f.high (d + 1) m (omega (arith, f.few)) (omega arith))

  pub sets_on : (n l d : ℕ) → Setter t n l d → Goes (set t (node n (l + 1)) true) n (d + 1) (climb n (l + 1) (d + 1))
  sets_on n l d f = subst (λ j. Goes (set t (node n j) true) n (d + 1) (climb n j (d + 1))) (sym (add-one l)) (
      let few = f.few in
      let p = node n (suc l) in
      let index = node_index n f.low f.high (suc l) (omega arith) in
      let on = get_or-set_same t p true false (omega arith) in
      climbs (set t p true) n f.low f.high (d + 1) (suc l) (omega arith) (up_odd t n (set t p true) l (set_on t p) on f.right f.holds)
      (omega (arith, f.spent, f.right, spent_up t n l)))

  pub after : (w : Walk) → Fit t (Some w) → asked (busy (walk_op w)) ≤ c → After t c (Some w) (switches_after (next w) t) (goes_on w (seen (next w) t))
  after (Reading k l) f h =
      let on = switch t k in
      record {
        up = same;
        wide = refl;
        caps = caps;
        fit = cond_both (ltb 1 l) (Some (Reading (child on k) (l - 1))) None (Fit t) (λ e. read_on k l f (ltb-true 1 l e)) (λ _. tt);
        ends = inl (cond_both (ltb 1 l) (Some (Reading (child on k) (l - 1))) None (λ q. asked (doing_of walk_op q) ≡ 0) (λ _. refl) (λ _. refl));
        floors = cond_both (ltb 1 l) (Some (Reading (child on k) (l - 1))) None (λ q. tree_floor t (Some (Reading k l)) ≤ tree_floor t q)
            (λ e. omega (arith, reach_down k l (ltb-true 1 l e))) (λ e. floor_below t (Some (Reading k l)) f);
      }
  after (Looking n l d) f h = writes (Looking n l d) n (d + 1) t (goes_on (Looking n l d) (switch t (node n l))) refl refl same refl caps (looks_on n l d f)
  after (Setting n l d) f h =
      let p = node n (l + 1) in
      writes (Setting n l d) n (d + 1) (set t p true) (climb n (l + 1) (d + 1)) refl refl (set_on t p) (length-set t p true)
      (subst (λ j. Capped (set t (node n j) true) c) (sym (add-one l)) (set_caps n l f.low f.high h f.few f.right)) (sets_on n l d f)

pub starts_write : (t : List Bool) (n : ℕ) → 1 ≤ n → n ≤ 128 → Goes t n 0 (descend n 7 0)
starts_write t n low high = descends t n low high 0 7 (omega arith) (rw (top_node n low high) (omega (arith, ones-ones 1)))

pub starts_read : (t : List Bool) → Reader t 1 7
starts_read t = let h = bounds 7 t 1 in record { some = omega arith; few = omega arith; deep = omega arith; reached = omega arith }
