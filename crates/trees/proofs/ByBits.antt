-- The walk of a write goes by the bits of its number.
use Rattle.std.proofs.Common.{◌≡◌, ℕ, zero, suc, ◌+◌, ◌-◌, ◌*◌, ◌/◌, ◌%◌, ◌^◌, ◌<◌, ◌≤◌, Bool, true, false, cond, eqb, List, [], ◌∷◌, map, set, Some, Option, sym, refl, ap, ◌∙◌, ap₂, ⊎_elim, add-one, arith}
use Rattle.std.proofs.Math.Nat.{pow-succ'}
use Rattle.std.proofs.lemmas.Nat.{shr-shr}
use Rattle.std.proofs.lemmas.Bool.{cases_eq, eq-eqb, ne_eqb}
use Rattle.trees.specs.declared.walk.Walk.{Walk}
use Rattle.trees.specs.declared.walk.Walk.TheVariants.{Reading, Looking, Setting}
use Rattle.trees.specs.Bits.{bits, by_bits, passed, ahead, IsWrite, WritesByBits}
use Rattle.trees.specs.Fits.{Fit}
use Rattle.trees.specs.Switches.{switch}
use Rattle.trees.specs.Walks.{Access, looks, sets, next, switches_after, seen, goes_on, node, fall, climb, descend}
use Rattle.trees.specs.Way.{node_up, top_node, rise_even, rise_odd, rise_top, climb_sets, climb_ends, fall_end, descend_looks, descend_turns}

halved : (m l : ℕ) → m / 2 ^ suc l ≡ m / 2 ^ l / 2
halved m l = sym (shr-shr m l 1 ∙ ap (λ k. m / 2 ^ k) (add-one l))

-- the way to n is the bits of n - 1 below a 1
bits_below : (n : ℕ) → 1 ≤ n → (l up : ℕ) → l + up ≡ 7 → node n l ≡ (n - 1) / 2 ^ l + 2 ^ up
bits_below n low zero up e = let f : up ≡ 7 = omega arith in rw f (omega arith)
bits_below n low (suc l) up e = omega (arith, bits_below n low l (suc up) (omega arith), node_up n l, halved (n - 1) l, pow-succ' 2 up)

-- the bit of n - 1 at a level says on which side the way leaves the switch above
bit_of : (n l : ℕ) → 1 ≤ n → l < 7 → (n - 1) / 2 ^ l % 2 ≡ node n l % 2
bit_of n l low few = omega (arith, bits_below n low l (suc (6 - l)) (omega arith), pow-succ' 2 (6 - l))

module _ (n : ℕ) where
  either_way : (t : List Bool) (b : Bool) (o q : Option Walk) (xs ys : List Access) → xs ≡ ahead t o → ys ≡ ahead t q → cond b xs ys ≡ ahead t (cond b o q)
  either_way t true o q xs ys e f = e
  either_way t false o q xs ys e f = f

  climb_even : (d l : ℕ) → l < 7 → node n l % 2 ≡ 0 → climb n l d ≡ climb n (suc l) d
  unfolding climb
  climb_even d l h even = rw (rise_even n l h even, add-one)

  descend_odd : (d l : ℕ) → node n l % 2 ≡ 1 → descend n (suc l) d ≡ descend n l d
  unfolding descend fall
  descend_odd d l odd = rw (eq-eqb (node n l % 2) 1 odd)

  fall_here : (l : ℕ) → node n l % 2 ≡ 0 → fall n (suc l) ≡ suc l
  unfolding fall
  fall_here l even = rw (ne_eqb (node n l % 2) 1 (omega arith))

  passed_odd : (l : ℕ) → l < 7 → node n l % 2 ≡ 1 → passed n l (7 - l) ≡ node n (suc l) ∷ passed n (suc l) (7 - suc l)
  unfolding passed
  passed_odd l h odd =
      let e : 7 - l ≡ suc (7 - suc l) = omega arith in
      rw (e, eq-eqb (node n l % 2) 1 odd)

  passed_even : (l : ℕ) → l < 7 → node n l % 2 ≡ 0 → passed n l (7 - l) ≡ passed n (suc l) (7 - suc l)
  unfolding passed
  passed_even l h even =
      let e : 7 - l ≡ suc (7 - suc l) = omega arith in
      rw (e, ne_eqb (node n l % 2) 1 (omega arith))

  -- on its way up a write has the switches before it that it passed at a 1
  climb_ahead : (t : List Bool) (d up l : ℕ) → l + up ≡ 7 → ahead t (climb n l d) ≡ map sets (passed n l (7 - l))
  unfolding passed
  climb_ahead t d zero l e =
      let f : l ≡ 7 = omega arith in
      ap (ahead t) (climb_ends n l d 7 (rise_top n l f) (omega arith)) ∙ sym (ap (λ k. map sets (passed n k (7 - k))) f)
  climb_ahead t d (suc up) l e = ⊎_elim
      (λ odd. ap (ahead t) (climb_sets n l d l (rise_odd n l (omega arith) odd) (omega arith)))
      (λ ne.
      let even : node n l % 2 ≡ 0 = omega arith in
      ap (ahead t) (climb_even d l (omega arith) even) ∙ climb_ahead t d up (suc l) (omega arith) ∙ sym (ap (map sets) (passed_even l (omega arith) even)))
      (cases_eq (node n l % 2) 1)

  -- on its way down it has those of the bits that are left
  descend_ahead : (t : List Bool) (d l : ℕ) → 1 ≤ n → l ≤ 7 → ahead t (descend n l d) ≡ by_bits t (bits l (n - 1)) (node n l) (passed n l (7 - l))
  unfolding bits
  descend_ahead t d zero low h = ap (ahead t) (descend_turns n 0 d (fall_end n 0 refl)) ∙ climb_ahead t d 7 0 (omega arith)
  descend_ahead t d (suc l) low h = ⊎_elim
      (λ odd.
      let k = node n (suc l) in
      let ps = passed n (suc l) (7 - suc l) in
      let u = node_up n l in
      let below : node n l ≡ 2 * k + 1 = omega arith in
      let one : eqb ((n - 1) / 2 ^ l % 2) 1 ≡ true = eq-eqb _ _ (bit_of n l low (omega arith) ∙ odd) in
      ap (ahead t) (descend_odd d l odd) ∙ descend_ahead t d l low (omega arith) ∙ ap₂ (by_bits t (bits l (n - 1))) below (passed_odd l (omega arith) odd)
      ∙ sym (ap (λ b. by_bits t (b ∷ bits l (n - 1)) k ps) one))
      (λ ne. ap (ahead t) (descend_looks n (suc l) d (suc l) (fall_here l (omega arith)) (omega arith)))
      (cases_eq (node n l % 2) 1)

  -- a look, at the level above m
  looks_ahead : (t : List Bool) (d m : ℕ) → 1 ≤ n → m < 7 → node n m % 2 ≡ 0
      → by_bits t (bits (suc m) (n - 1)) (node n (suc m)) (passed n (suc m) (7 - suc m)) ≡ looks (node n (suc m)) ∷ ahead t (cond (switch t (node n (suc m))) (climb n (suc m) d) (descend n m d))
  unfolding bits
  looks_ahead t d m low h even =
      let k = node n (suc m) in
      let ps = passed n (suc m) (7 - suc m) in
      let u = node_up n m in
      let below : 2 * k ≡ node n m = omega arith in
      let nought : eqb ((n - 1) / 2 ^ m % 2) 1 ≡ false = ne_eqb _ _ (omega (arith, bit_of n m low h)) in
      ap (λ b. by_bits t (b ∷ bits m (n - 1)) k ps) nought
      ∙ ap (λ xs. looks k ∷ xs) (either_way t (switch t k) (climb n (suc m) d) (descend n m d) (map sets ps) (by_bits t (bits m (n - 1)) (2 * k) ps)
      (sym (climb_ahead t d (7 - suc m) (suc m) (omega arith)))
      (ap₂ (by_bits t (bits m (n - 1))) below (sym (passed_even m h even)) ∙ sym (descend_ahead t d m low (omega arith))))

-- one access
goes : (t : List Bool) (w : Walk) → Fit t (Some w) → IsWrite w → ahead t (Some w) ≡ next w ∷ ahead (switches_after (next w) t) (goes_on w (seen (next w) t))
goes t (Reading k l) f x = absurd x
goes t (Looking n l d) f x =
    let m = l - 1 in
    let some = f.some in
    let e : l ≡ suc m = omega arith in
    let few = f.few in
    ap (λ j. by_bits t (bits j (n - 1)) (node n j) (passed n j (7 - j))) e ∙ looks_ahead n t (d + 1) m f.low (omega arith) f.left
    ∙ ap (λ j. looks (node n j) ∷ ahead t (cond (switch t (node n j)) (climb n j (d + 1)) (descend n m (d + 1)))) (sym e)
goes t (Setting n l d) f x = ap (map sets) (passed_odd n l f.few f.right)
    ∙ ap₂ (λ k xs. sets (node n k) ∷ xs) (sym (add-one l)) (sym (climb_ahead n (set t (node n (l + 1)) true) (d + 1) (7 - suc l) (suc l) (omega (arith, f.few))) ∙ ap (λ j. ahead (set t (node n (l + 1)) true) (climb n j (d + 1))) (sym (add-one l)))

pub writes_by_bits_lem : WritesByBits
unfolding passed
writes_by_bits_lem = record { begins = λ t n low high. descend_ahead n t 0 7 low (omega arith) ∙ ap (λ k. by_bits t (bits 7 (n - 1)) k []) (top_node n low high); goes = goes }
