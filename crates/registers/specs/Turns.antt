-- One processor's operation becomes another, or it begins, goes on or ends: what that makes of the meaning, for every
-- register that keeps its processors' operations in a list.
use Rattle.std.specs.Prelude.{◌≡◌, ℕ, ◌<◌, ◌≤◌, max, false, List, length, Some, None, Option, ◌≢◌, slice_set, refl}
use Rattle.std.proofs.Common.{ap, ◌∙◌, arith, get_or-set_same, get_or-set_other}
use Rattle.registers.specs.Meaning.{Operation, idle, busy, reading, writing, is_busy, asked}
use Rattle.registers.specs.Model.{Undisturbed, ReadBegins, WriteBegins}
use Rattle.registers.specs.Operations.{at, doing_of, most_asked, meaning_of}
use Rattle.registers.specs.Refusals.{refuse_read, refuse_write}
use Rattle.registers.specs.Accepted.{accept_read, accept_write}
use Rattle.registers.specs.Slots.{most_at, most_set, most_within}

module _ {A : Type 0} (op : A → Operation) where
  pub not_busy : (o : Option A) → is_busy (doing_of op o) ≡ false → o ≡ None
  not_busy None e = refl
  not_busy (Some a) e = let z : ◌≡◌ {A = ℕ} 0 1 = cc in absurd (omega arith)

  pub idle_none : (o : Option A) → doing_of op o ≡ idle → o ≡ None
  idle_none None e = refl
  idle_none (Some a) e = let z : ◌≡◌ {A = ℕ} 0 1 = cc in absurd (omega arith)

  -- what an accepted begin knows
  pub may_read : (p : ℕ) (o : Option A) → refuse_read p (is_busy (doing_of op o)) ≡ None → (p < 16) × (o ≡ None)
  may_read p o e = let (h, free) = accept_read p (is_busy (doing_of op o)) e in (h, not_busy o free)

  pub may_write : (bound p n : ℕ) (o : Option A) → refuse_write bound p n (is_busy (doing_of op o)) ≡ None → (p < 16) × (o ≡ None) × (1 ≤ n) × (n ≤ bound)
  may_write bound p n o e = let (h, free, low, high) = accept_write bound p n (is_busy (doing_of op o)) e in (h, not_busy o free, low, high)

  -- no processor asks for more than a bound
  pub asked_at : (xs : List (Option A)) (p bound : ℕ) (a : A) → most_asked op xs ≤ bound → at xs p ≡ Some a → asked (busy (op a)) ≤ bound
  asked_at xs p bound a h is = let u = rw is at (most_at None (λ o. asked (doing_of op o)) refl xs p) in omega arith

  pub still_asked : (xs : List (Option A)) (p bound : ℕ) (o : Option A) → most_asked op xs ≤ bound → asked (doing_of op o) ≤ bound → most_asked op (slice_set xs p o) ≤ bound
  still_asked xs p bound o = most_within (λ o. asked (doing_of op o)) bound xs p o

-- the operations ys are xs, but that of p, one of sixteen, which is o
pub record Becomes {A : Type 0} (xs ys : List (Option A)) (p : ℕ) (o : Option A) : Type 0 where
  pub sixteen : length xs ≡ 16
  pub processor : p < 16
  pub changed : ys ≡ slice_set xs p o

module _ {A : Type 0} (op : A → Operation) {xs ys : List (Option A)} {p : ℕ} {o : Option A} (b : Becomes xs ys p o) where
  within : p < length xs
  within = omega (arith, b.sixteen, b.processor)

  pub now_at : at ys p ≡ o
  now_at = ap (λ zs. at zs p) b.changed ∙ get_or-set_same xs p o None within

  pub now_doing : doing_of op (at ys p) ≡ doing_of op o
  now_doing = ap (doing_of op) now_at

  pub else_at : (q : ℕ) → (q ≢ p) → at ys q ≡ at xs q
  else_at q ne = ap (λ zs. at zs q) b.changed ∙ get_or-set_other xs p q o None ne

  pub asks : max (most_asked op ys) (asked (doing_of op (at xs p))) ≡ max (most_asked op xs) (asked (doing_of op o))
  asks = rw b.changed (most_set None (λ o. asked (doing_of op o)) xs p o within)

  -- an operation ends, and what it asked for is held
  pub ended_ceiling : (a : A) → o ≡ None → at xs p ≡ Some a → (hx hy : ℕ) → hx ≤ hy → asked (busy (op a)) ≤ hy → hy ≤ max hx (most_asked op xs)
      → max hy (most_asked op ys) ≡ max hx (most_asked op xs)
  ended_ceiling a none is hx hy up got under = let u = rw (none, is) at asks in omega arith

  module _ (fx fy : ℕ → ℕ) (hx hy : ℕ) (up : (q : ℕ) → q < 16 → fx q ≤ fy q) where
    pub undisturbed : Undisturbed p (meaning_of op xs fx hx) (meaning_of op ys fy hy)
    undisturbed = record { floors = up; others = λ q _ ne. ap (doing_of op) (else_at q ne) }

    pub read_begins : at xs p ≡ None → doing_of op o ≡ busy (reading 0) → hy ≡ hx → ReadBegins p (meaning_of op xs fx hx) (meaning_of op ys fy hy)
    read_begins free first held =
        let u = ap asked first in
        let v = rw free at asks in
        record { undisturbed = undisturbed; begun = now_doing ∙ first; same_ceiling = omega arith }

    pub write_begins : (n : ℕ) → at xs p ≡ None → doing_of op o ≡ busy (writing n 0) → hy ≡ hx → WriteBegins p n (meaning_of op xs fx hx) (meaning_of op ys fy hy)
    write_begins n free first held =
        let u = ap asked first in
        let v = rw free at asks in
        record { undisturbed = undisturbed; begun = now_doing ∙ first; raised_ceiling = omega arith }
