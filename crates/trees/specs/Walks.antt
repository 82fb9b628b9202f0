-- How an operation walks the tree, one switch an access. The way to the leaf of n goes by the bits of n - 1, highest first:
-- the node l levels above the leaf is (n + 127) / 2 ^ l, and it is odd where the way leaves the switch above by its on side.
use Rattle.std.specs.Prelude.{ℕ, zero, suc, ◌+◌, ◌-◌, ◌/◌, ◌%◌, ◌^◌, Bool, true, cond, List, Some, None, Option, ◌==◌, nat_lt, slice_set}
use Rattle.registers.specs.declared.answers.Became.{Became}
use Rattle.registers.specs.declared.answers.Became.TheVariants.{Going, Read, Written}
use Rattle.registers.specs.Meaning.{Operation, reading, writing}
use Rattle.trees.specs.declared.walk.Walk.{Walk}
use Rattle.trees.specs.declared.walk.Walk.TheVariants.{Reading, Looking, Setting}
use Rattle.trees.specs.Switches.{switch, child}

-- the node on the way to the leaf of n, l levels above it
abbrev pub node : ℕ → ℕ → ℕ
node n l = (n + 127) / 2 ^ l

-- the level of the first switch, from level l down, that the way to n leaves by its off side; 0 where there is none
unfoldable pub fall : ℕ → ℕ → ℕ
fall n zero = 0
fall n (suc l) = cond (node n l % 2 == 1) (fall n l) (suc l)

-- the level of the first node, from level l up, that lies on the on side of its switch; the top where there is none
unfoldable pub rise : ℕ → ℕ → ℕ → ℕ
rise n l zero = l
rise n l (suc up) = cond (node n l % 2 == 1) l (rise n (l + 1) up)

-- a write of n that has passed level l on its way up, after d accesses: it has a switch to set, or it has ended
unfoldable pub climb : ℕ → ℕ → ℕ → Option Walk
climb n l d = cond (nat_lt (rise n l (7 - l)) 7) (Some (Setting n (rise n l (7 - l)) d)) None

-- a write of n that has come to level l on its way down, after d accesses: it has a switch to look at, or it turns
unfoldable pub descend : ℕ → ℕ → ℕ → Option Walk
descend n l d = cond (fall n l == 0) (climb n 0 d) (Some (Looking n (fall n l) d))

-- one access of the shared memory: it looks at the switch of a node, or sets it
pub data Access : Type 0 where
  looks : ℕ → Access
  sets : ℕ → Access

abbrev pub next : Walk → Access
next (Reading k l) = looks k
next (Looking n l d) = looks (node n l)
next (Setting n l d) = sets (node n (l + 1))

-- the switches after an access, and what the access sees of them
abbrev pub switches_after : Access → List Bool → List Bool
switches_after (looks k) t = t
switches_after (sets k) t = slice_set t k true

abbrev pub seen : Access → List Bool → Bool
seen (looks k) t = switch t k
seen (sets k) t = true

-- how an operation goes on, by what its access saw; a write that meets an on switch goes no further down
abbrev pub goes_on : Walk → Bool → Option Walk
goes_on (Reading k l) on = cond (nat_lt 1 l) (Some (Reading (child on k) (l - 1))) None
goes_on (Looking n l d) on = cond on (climb n l (d + 1)) (descend n (l - 1) (d + 1))
goes_on (Setting n l d) on = climb n (l + 1) (d + 1)

-- what the access says: a read ends at a leaf, a write where nothing is left to do
abbrev pub write_answer : Option Walk → Became
write_answer None = Written
write_answer (Some w) = Going

abbrev pub walk_answer : Walk → Bool → Became
walk_answer (Reading k l) on = cond (nat_lt 1 l) Going (Read (child on k - 127))
walk_answer (Looking n l d) on = write_answer (goes_on (Looking n l d) on)
walk_answer (Setting n l d) on = write_answer (goes_on (Setting n l d) on)

-- a read's accesses so far are the switches it has passed
abbrev pub walk_op : Walk → Operation
walk_op (Reading k l) = reading (7 - l)
walk_op (Looking n l d) = writing n d
walk_op (Setting n l d) = writing n d
