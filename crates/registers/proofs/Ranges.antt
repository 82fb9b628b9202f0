-- The ghost fields of a range after an access.
use Rattle.std.proofs.Common.{◌≡◌, ℕ, ◌≤◌, List, length, set, Ok, Option, arith, length-set}
use Rattle.registers.specs.declared.range_state.Range.{Range}
use Rattle.registers.specs.declared.single.Single.{Single}
use Rattle.registers.specs.Most.{greatest}
use Rattle.registers.specs.Operations.{at, most_asked, Takes}
use Rattle.registers.specs.Single.{single_op}
use Rattle.registers.specs.Slots.{most_there, most_within}
use Rattle.registers.proofs.Singles.{taken, takes_asked}

-- what a range keeps, as its ghost fields have it
abbrev pub Kept : ℕ → List ℕ → List (Option Single) → Type 0
Kept shared own ops = record {
  sixteen : length ops ≡ 16;
  owners : length own ≡ 16;
  owned : shared ≤ greatest own;
  held : greatest own ≤ 256;
  asked : most_asked single_op ops ≤ 256;
}

-- after an access processor p has the own number n, which R does not exceed
pub owns : (x : Range) (p shared n : ℕ) (a : Single) (ops : List (Option Single)) → Takes p (at x.state.operations p) x.state.operations (Ok a) ops → shared ≤ n → n ≤ 256
    → Kept shared (set x.state.own p n) ops
owns x p shared n a ops d below small =
    let (h, is, now) = taken p (at x.state.operations p) x.state.operations ops a d in
    record {
      sixteen = rw now (simp length-set x.sixteen);
      owners = simp length-set x.owners;
      owned = omega (arith, most_there (λ m. m) x.state.own p n (omega (arith, x.owners)));
      held = most_within (λ m. m) 256 x.state.own p n x.held small;
      asked = takes_asked x.state.operations ops p 256 x.asked (at x.state.operations p) a d;
    }
