-- Registers each of whose operations is one access: what a begin and an access make of the meaning, whatever the floors
-- and the number held.
use Rattle.std.specs.Prelude.{◌≡◌, ℕ, ◌<◌, ◌≤◌, max, List, Some, None, Option, refl}
use Rattle.std.proofs.Common.{arith}
use Rattle.registers.specs.declared.answers.Became.TheVariants as became
use Rattle.registers.specs.declared.single.Single.{Single}
use Rattle.registers.specs.declared.single.Single.TheVariants.{Read, Write}
use Rattle.registers.specs.Model.{Limits, Unspent, Accesses}
use Rattle.registers.specs.Operations.{at, doing_of, most_asked, meaning_of}
use Rattle.registers.specs.Single.{single_op}
use Rattle.registers.specs.Turns.{Becomes, asked_at, now_doing, ended_ceiling, undisturbed}

-- one access suffices for such an operation
pub single_unspent : (limits : Limits) → 1 ≤ limits.read → 1 ≤ limits.write → (o : Option Single) → Unspent limits (doing_of single_op o)
single_unspent limits r w None = tt
single_unspent limits r w (Some Read) = omega arith
single_unspent limits r w (Some (Write n)) = omega arith

module _ {xs ys : List (Option Single)} {p : ℕ} (b : Becomes xs ys p None) (fx fy : ℕ → ℕ) (hx hy : ℕ) (up : (q : ℕ) → q < 16 → fx q ≤ fy q) where
  -- a read answers a number between the floor and what is held, and the floor is not below it then
  pub read_ends : (a : ℕ) → at xs p ≡ Some Read → hy ≡ hx → fx p ≤ a → a ≤ hx → a ≤ fy p → Accesses p (became.Read a) (meaning_of single_op xs fx hx) (meaning_of single_op ys fy hy)
  read_ends a is same low high kept =
      record {
        undisturbed = undisturbed single_op b fx fy hx hy up;
        same_ceiling = ended_ceiling single_op b Read refl is hx hy (omega arith) (omega arith) (omega arith);
        goes_on = rw is (record { ended = now_doing single_op b; not_below_floor = low; not_above_ceiling = omega arith; kept = kept });
      }

  -- a write raises what is held to its number, and the floor is not below it then
  pub write_ends : (n : ℕ) → at xs p ≡ Some (Write n) → hy ≡ max hx n → n ≤ fy p → Accesses p became.Written (meaning_of single_op xs fx hx) (meaning_of single_op ys fy hy)
  write_ends n is raised kept =
      let a = asked_at single_op xs p (most_asked single_op xs) (Write n) (omega arith) is in
      record {
        undisturbed = undisturbed single_op b fx fy hx hy up;
        same_ceiling = ended_ceiling single_op b (Write n) refl is hx hy (omega arith) (omega arith) (omega arith);
        goes_on = rw is (record { ended = now_doing single_op b; kept = kept });
      }
