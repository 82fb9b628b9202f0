-- What a tree of switches keeps: what its switches and the walks under way have to do with each other.
use Rattle.std.specs.Prelude.{◌≡◌, ℕ, suc, ◌+◌, ◌-◌, ◌*◌, ◌%◌, ◌^◌, ◌<◌, ◌≤◌, max, Bool, true, List, Some, None, Option, count_ones}
use Rattle.std.specs.Coded.{Unit-prop, le_prop}
use Rattle.std.proofs.Math.Nat.{ℕ_set}
use Rattle.registers.specs.Operations.{at, most_asked}
use Rattle.trees.specs.declared.walk.Walk.{Walk}
use Rattle.trees.specs.declared.walk.Walk.TheVariants.{Reading, Looking, Setting}
use Rattle.trees.specs.Switches.{switch, reach, shown}
use Rattle.trees.specs.Walks.{node, walk_op}

abbrev pub ceiling : List Bool → List (Option Walk) → ℕ
ceiling t ops = max (shown t) (most_asked walk_op ops)

-- the switch of node k, whose children lie l levels above the leaves, is on
pub record On (t : List Bool) (l k : ℕ) : Type 0 where
  pub deep : 128 ≤ k * 2 ^ suc l
  pub high : k * 2 ^ suc l < 256
  pub on : switch t k ≡ true

-- no switch is on that stands for numbers above c alone
abbrev pub Capped : List Bool → ℕ → Type 0
Capped t c = (l k : ℕ) → On t l k → (2 * k + 1) * 2 ^ l ≤ c + 127

-- a read at node k with l switches left: the first leaf below its node is not above what is shown
pub record Reader (t : List Bool) (k l : ℕ) : Type 0 where
  pub some : 1 ≤ l
  pub few : l ≤ 7
  pub deep : 128 ≤ k * 2 ^ l
  pub reached : k * 2 ^ l ≤ reach 7 t 1

-- a write of n about to look at level l, which its way leaves by the off side; the accesses still to come fit
pub record Looker (n l d : ℕ) : Type 0 where
  pub low : 1 ≤ n
  pub high : n ≤ 128
  pub some : 1 ≤ l
  pub few : l ≤ 7
  pub left : node n (l - 1) % 2 ≡ 0
  pub spent : d + count_ones (node n l) + l ≤ 8

-- a write of n about to set the switch above level l, which its way leaves by the on side: from its node a read would
-- reach n or more
pub record Setter (t : List Bool) (n l d : ℕ) : Type 0 where
  pub low : 1 ≤ n
  pub high : n ≤ 128
  pub few : l < 7
  pub right : node n l % 2 ≡ 1
  pub holds : n + 127 ≤ reach l t (node n l)
  pub spent : d + count_ones (node n l) ≤ 8

abbrev pub Fit : List Bool → Option Walk → Type 0
Fit t None = Unit {0}
Fit t (Some (Reading k l)) = Reader t k l
Fit t (Some (Looking n l d)) = Looker n l d
Fit t (Some (Setting n l d)) = Setter t n l d

-- each walk fits in one way
pub fit_prop : (t : List Bool) (o : Option Walk) → IsProp (Fit t o)
fit_prop t None = Unit-prop
fit_prop t (Some (Reading k l)) = λ x y i. record { some = le_prop x.some y.some i; few = le_prop x.few y.few i; deep = le_prop x.deep y.deep i; reached = le_prop x.reached y.reached i }
fit_prop t (Some (Looking n l d)) = λ x y i. record { low = le_prop x.low y.low i; high = le_prop x.high y.high i; some = le_prop x.some y.some i; few = le_prop x.few y.few i; left = ℕ_set _ _ x.left y.left i; spent = le_prop x.spent y.spent i }
fit_prop t (Some (Setting n l d)) = λ x y i. record { low = le_prop x.low y.low i; high = le_prop x.high y.high i; few = le_prop x.few y.few i; right = ℕ_set _ _ x.right y.right i; holds = le_prop x.holds y.holds i; spent = le_prop x.spent y.spent i }

pub fits_prop : (t : List Bool) (ops : List (Option Walk)) → IsProp ((p : ℕ) → Fit t (at ops p))
fits_prop t ops = λ x y i p. fit_prop t (at ops p) (x p) (y p) i
