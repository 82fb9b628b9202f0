-- What each reader gives: the value of its definition, and by it exactly what is written. It is sound, what it takes was
-- written so, and complete, it takes all that is.
use Rattle.std.specs.Prelude.{◌≡◌, ℕ, ◌≤◌, Bool, true, List, ◌∷◌, ◌++◌, length, Some, Ok, decimal, Option, Result}
use Rattle.text.specs.Bytes.{plain_text}
use Rattle.text.specs.Figures.{within}
use Rattle.text.specs.Pairs.{Step, stops, pair, gap, field, never, ender}
use Rattle.text.specs.Whole.{whole, ended}
use Rattle.text.specs.declared.fault.Fault.{Fault}

-- a number: exactly the figures that the numbers from low to most are written with
pub record ReadsNumber (low most : ℕ) (w : List ℕ) (r : Option ℕ) : Type 0 where
  pub is : r ≡ within low most w
  pub sound : (n : ℕ) → r ≡ Some n → (w ≡ decimal n) × (low ≤ n) × (n ≤ most)
  pub complete : (n : ℕ) → low ≤ n → n ≤ most → w ≡ decimal n → r ≡ Some n

-- the numbers from low to most
abbrev pub Between : ℕ → ℕ → ℕ → Type 0
Between low most n = (low ≤ n) × (n ≤ most)

abbrev pub AnyValue : {W : Type 0} → W → Type 0
AnyValue x = Unit {0}

-- a pair: exactly `key=value` before a space or a newline, and reading then goes on there
pub record ReadsPair {T : Type 0} (key : List ℕ) (rule : List ℕ → Option T) (text : T → List ℕ) (good : T → Type 0) (s : List ℕ) (r : Step T) : Type 0 where
  pub is : r ≡ pair key rule s
  pub sound : (v : T) (t : List ℕ) → r ≡ Ok (v, t) → good v × (s ≡ key ++ (61 ∷ (text v ++ t)))
  pub complete : (v : T) (c : ℕ) (t : List ℕ) → good v → stops c ≡ true → s ≡ key ++ (61 ∷ (text v ++ (c ∷ t))) → r ≡ Ok (v, c ∷ t)

-- the end of a pair: exactly a newline at the last of a line, else a space
pub record ReadsEnd (last : Bool) (s : List ℕ) (r : Step (Unit {0})) : Type 0 where
  pub is : r ≡ gap last s
  pub sound : (t : List ℕ) → r ≡ Ok (tt, t) → s ≡ ender last ∷ t
  pub complete : (t : List ℕ) → s ≡ ender last ∷ t → r ≡ Ok (tt, t)

-- a pair that others follow: exactly `key=value` and a space
pub record ReadsField {T : Type 0} (key : List ℕ) (rule : List ℕ → Option T) (text : T → List ℕ) (good : T → Type 0) (s : List ℕ) (r : Step T) : Type 0 where
  pub is : r ≡ field key rule never s
  pub sound : (v : T) (t : List ℕ) → r ≡ Ok (v, t) → good v × (s ≡ key ++ (61 ∷ (text v ++ (32 ∷ t))))
  pub complete : (v : T) (t : List ℕ) → good v → s ≡ key ++ (61 ∷ (text v ++ (32 ∷ t))) → r ≡ Ok (v, t)

-- a whole text: exactly at most so many bytes, all plain, with a newline at the end
pub record PassesWhole (most : ℕ) (s : List ℕ) (r : Result (Unit {0}) Fault) : Type 0 where
  pub is : r ≡ whole most s
  pub sound : r ≡ Ok tt → (length s ≤ most) × (plain_text s ≡ true) × (ended s ≡ true)
  pub complete : length s ≤ most → plain_text s ≡ true → ended s ≡ true → r ≡ Ok tt
