-- A write in the words of its rule. It follows the seven bits of n - 1, highest first, from the top of the tree. At a 0 it
-- looks at the switch of its node, and goes no further down if that is on; at a 1 it goes on without an access. Then it
-- sets the switch of each node that it passed at a 1, deepest first.
use Rattle.std.specs.Prelude.{◌≡◌, ℕ, zero, suc, ◌+◌, ◌-◌, ◌*◌, ◌/◌, ◌%◌, ◌^◌, ◌≤◌, Bool, true, false, cond, List, [], ◌∷◌, map, Some, None, Option, ◌==◌}
use Rattle.trees.specs.declared.walk.Walk.{Walk}
use Rattle.trees.specs.declared.walk.Walk.TheVariants.{Reading, Looking, Setting}
use Rattle.trees.specs.Fits.{Fit}
use Rattle.trees.specs.Switches.{switch}
use Rattle.trees.specs.Walks.{Access, looks, sets, next, switches_after, seen, goes_on, node, descend}

-- the lowest l bits of m, highest first
unfoldable pub bits : ℕ → ℕ → List Bool
bits zero m = []
bits (suc l) m = (m / 2 ^ l % 2 == 1) ∷ bits l m

-- the accesses of a write on switches t, from node k with these bits left, past these nodes at a 1
abbrev pub by_bits : List Bool → List Bool → ℕ → List ℕ → List Access
by_bits t [] k passed = map sets passed
by_bits t (false ∷ left) k passed = looks k ∷ cond (switch t k) (map sets passed) (by_bits t left (2 * k) passed)
by_bits t (true ∷ left) k passed = by_bits t left (2 * k + 1) (k ∷ passed)

-- the nodes that the way to n passes at a 1, from level l over the next up levels, deepest first
unfoldable pub passed : ℕ → ℕ → ℕ → List ℕ
passed n l zero = []
passed n l (suc up) = cond (node n l % 2 == 1) (node n (suc l) ∷ passed n (suc l) up) (passed n (suc l) up)

-- the accesses that a write has still to make, as the switches are now
abbrev pub ahead : List Bool → Option Walk → List Access
ahead t None = []
ahead t (Some (Reading k l)) = []
ahead t (Some (Looking n l d)) = by_bits t (bits l (n - 1)) (node n l) (passed n l (7 - l))
ahead t (Some (Setting n l d)) = map sets (passed n l (7 - l))

abbrev pub IsWrite : Walk → Type 0
IsWrite (Reading k l) = ⊥
IsWrite (Looking n l d) = Unit {0}
IsWrite (Setting n l d) = Unit {0}

-- At its begin a write of n has just these accesses before it, and each step makes the first of those that are before it
-- and leaves the rest, as the switches then are: so whatever the other processors set meanwhile, it goes by the rule.
pub record WritesByBits : Type 0 where
  pub begins : (t : List Bool) (n : ℕ) → 1 ≤ n → n ≤ 128 → ahead t (descend n 7 0) ≡ by_bits t (bits 7 (n - 1)) 1 []
  pub goes : (t : List Bool) (w : Walk) → Fit t (Some w) → IsWrite w → ahead t (Some w) ≡ next w ∷ ahead (switches_after (next w) t) (goes_on w (seen (next w) t))
