-- The leaf that a read running alone reaches.
use Rattle.std.proofs.Common.{◌≡◌, ℕ, zero, suc, ◌+◌, ◌*◌, ◌^◌, ◌<◌, ◌≤◌, Bool, true, false, cond, List, refl, ap, ◌∙◌, ⊎_elim, mul-le-mul_right, mul_assoc, add-mul, one-mul, mul_left_comm, arith}
use Rattle.std.proofs.Math.Nat.{pow-succ'}
use Rattle.std.proofs.lemmas.Bool.{cases_order, cases_eq}
use Rattle.trees.specs.Fits.{Capped}
use Rattle.trees.specs.Switches.{switch, child, reach}

-- the nodes at two neighbouring levels
pub levels : (l k : ℕ) → (k * 2 ^ suc l ≡ 2 * (k * 2 ^ l)) × ((2 * k) * 2 ^ l ≡ 2 * (k * 2 ^ l)) × ((2 * k + 1) * 2 ^ l ≡ 2 * (k * 2 ^ l) + 2 ^ l) × (2 ^ suc l ≡ 2 * 2 ^ l)
levels l k =
    let p = pow-succ' 2 l in
    (ap (λ n. k * n) p ∙ mul_left_comm k 2 (2 ^ l), mul_assoc 2 k (2 ^ l), add-mul (2 * k) 1 (2 ^ l) ∙ omega (arith, mul_assoc 2 k (2 ^ l), one-mul (2 ^ l)), p)

Between : (ℕ → ℕ) → ℕ → ℕ → Type 0
Between r l k = (k * 2 ^ l ≤ r k) × (r k < k * 2 ^ l + 2 ^ l)

between_step : (r : ℕ → ℕ) (l k : ℕ) → ((j : ℕ) → Between r l j) → (b : Bool) → (k * 2 ^ suc l ≤ r (cond b (2 * k + 1) (2 * k))) × (r (cond b (2 * k + 1) (2 * k)) < k * 2 ^ suc l + 2 ^ suc l)
unfolding Between
between_step r l k all true = let h = levels l k in let i = all (2 * k + 1) in omega arith
between_step r l k all false = let h = levels l k in let i = all (2 * k) in omega arith

pub bounds : (l : ℕ) (t : List Bool) (k : ℕ) → (k * 2 ^ l ≤ reach l t k) × (reach l t k < k * 2 ^ l + 2 ^ l)
unfolding reach Between
bounds zero t k = omega arith
bounds (suc l) t k = between_step (reach l t) l k (bounds l t) (switch t k)

-- every switch that is on in s is on in t
infixl 20 ◌⊑◌
abbrev pub ◌⊑◌ : List Bool → List Bool → Type 0
◌⊑◌ s t = (k : ℕ) → switch s k ≡ true → switch t k ≡ true

rises_step : (s t : List Bool) (l k : ℕ) → ((j : ℕ) → reach l s j ≤ reach l t j) → (a b : Bool) → (a ≡ true → b ≡ true)
    → reach l s (cond a (2 * k + 1) (2 * k)) ≤ reach l t (cond b (2 * k + 1) (2 * k))
rises_step s t l k all true true up = all (2 * k + 1)
rises_step s t l k all true false up = let z = up refl in let y : ◌≡◌ {A = ℕ} 0 1 = cc in omega arith
rises_step s t l k all false true up = let h = levels l k in let i = bounds l s (2 * k) in let j = bounds l t (2 * k + 1) in omega arith
rises_step s t l k all false false up = all (2 * k)

pub rises : (s t : List Bool) → s ⊑ t → (l k : ℕ) → reach l s k ≤ reach l t k
unfolding reach
rises s t up zero k = omega arith
rises s t up (suc l) k = rises_step s t l k (rises s t up l) (switch s k) (switch t k) (up k)

-- a read from a node whose leaves begin no higher than what is shown reaches no more than that
level_below : (l : ℕ) (t : List Bool) (r k : ℕ) → k * 2 ^ l ≤ reach l t r → reach l t k ≤ reach l t r
level_below l t r k h =
    let i = bounds l t r in let j = bounds l t k in
    ⊎_elim (λ e. rw e (omega arith))
    (⊎_elim
    (λ lt. omega (arith, mul-le-mul_right {m = k + 1} {n = r} (2 ^ l) (omega arith), add-mul k 1 (2 ^ l), one-mul (2 ^ l)))
    (λ gt. omega (arith, mul-le-mul_right {m = r + 1} {n = k} (2 ^ l) (omega arith), add-mul r 1 (2 ^ l), one-mul (2 ^ l))))
    (cases_order k r)

pub below : (m l : ℕ) (t : List Bool) (r k : ℕ) → l ≤ m → k * 2 ^ l ≤ reach m t r → reach l t k ≤ reach m t r
unfolding reach
below zero l t r k h = let e : l ≡ 0 = omega arith in rw e (level_below 0 t r k)
below (suc m) l t r k h = ⊎_elim
    (λ e. rw e (level_below (suc m) t r k))
    (λ ne. below m l t (child (switch t r) r) k (omega arith))
    (cases_eq l (suc m))

capped_step : (t : List Bool) (c l k : ℕ) → Capped t c → c ≤ 128 → 128 ≤ k * 2 ^ suc l → k * 2 ^ suc l ≤ c + 127
    → ((j : ℕ) → 128 ≤ j * 2 ^ l → j * 2 ^ l ≤ c + 127 → reach l t j ≤ c + 127)
    → (b : Bool) → switch t k ≡ b → reach l t (cond b (2 * k + 1) (2 * k)) ≤ c + 127
capped_step t c l k caps small deep under all true on =
    let h = levels l k in
    all (2 * k + 1) (omega arith) (caps l k (record { deep = deep; high = omega arith; on = on }))
capped_step t c l k caps small deep under all false on =
    let h = levels l k in
    all (2 * k) (omega arith) (omega arith)

-- where no switch is on for numbers above c alone, a read that starts at c or below ends there
pub capped : (t : List Bool) (c : ℕ) → Capped t c → c ≤ 128 → (l k : ℕ) → 128 ≤ k * 2 ^ l → k * 2 ^ l ≤ c + 127 → reach l t k ≤ c + 127
unfolding reach
capped t c caps small zero k deep under = omega arith
capped t c caps small (suc l) k deep under =
    capped_step t c l k caps small deep under (capped t c caps small l) (switch t k) refl
