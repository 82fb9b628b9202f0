-- Pairs `key=value`, each value ended by a space or a newline.
use Rattle.std.specs.Prelude.{◌≡◌, ℕ, Bool, true, false, cond, ◌||◌, List, [], ◌∷◌, length, Some, None, Ok, Err, Option, Result, ◌==◌}
use Rattle.text.specs.Bytes.{plain_text}
use Rattle.text.specs.declared.fault.Fault.{Fault}
use Rattle.text.specs.declared.fault.Refusal.{Refusal}
use Rattle.text.specs.declared.fault.Refusal.TheVariants.{OtherKey, BadValue, Surplus}

-- what is left of a text after a key and `=`
abbrev pub keyed : List ℕ → List ℕ → Option (List ℕ)
keyed [] [] = None
keyed [] (c ∷ cs) = cond (c == 61) (Some cs) None
keyed (k ∷ ks) [] = None
keyed (k ∷ ks) (c ∷ cs) = cond (c == k) (keyed ks cs) None

abbrev pub stops : ℕ → Bool
stops c = c == 10 || c == 32

-- the bytes before the first space or newline
abbrev pub word : List ℕ → List ℕ
word [] = []
word (c ∷ cs) = cond (stops c) [] (c ∷ word cs)

-- the bytes from there on
abbrev pub after : List ℕ → List ℕ
after [] = []
after (c ∷ cs) = cond (stops c) (c ∷ cs) (after cs)

-- what a step of reading gives: a value and the rest of the text, or a fault
abbrev pub Step : Type 0 → Type 0
Step T = Result (T × List ℕ) Fault

-- a refusal, where this is what is left of the text
abbrev pub fault : Refusal → List ℕ → Fault
fault why at = record { refusal = why; left = length at }

abbrev pub or_else : {T U : Type 0} → Option T → Fault → (T → Step U) → Step U
or_else None f k = Err f
or_else (Some x) f k = k x

unfoldable pub then : {T U : Type 0} → Step T → (T → List ℕ → Step U) → Step U
then (Ok p) k = k p.0 p.1
then (Err f) k = Err f

-- a value that a call gave, with where it left its reader
abbrev pub outcome : {T : Type 0} → Result T Fault → List ℕ → Step T
outcome (Ok x) rest = Ok (x, rest)
outcome (Err f) rest = Err f

-- the value of the key that is due, by a rule for its word
unfoldable pub pair : {T : Type 0} → List ℕ → (List ℕ → Option T) → List ℕ → Step T
pair key rule s = or_else (keyed key s) (fault OtherKey s) (λ t. or_else (rule (word t)) (fault BadValue t) (λ v. Ok (v, after t)))

-- the end of a pair: a space, or at the last pair of a line a newline
abbrev pub gap_at : Bool → List ℕ → List ℕ → Step (Unit {0})
gap_at last s [] = Err (fault OtherKey s)
gap_at true s (c ∷ cs) = cond (c == 10) (Ok (tt, cs)) (Err (fault Surplus s))
gap_at false s (c ∷ cs) = cond (c == 32) (Ok (tt, cs)) (Err (fault OtherKey s))

unfoldable pub gap : Bool → List ℕ → Step (Unit {0})
gap last s = gap_at last s s

-- a pair that is never the last of its line
abbrev pub never : {T : Type 0} → T → Bool
never x = false

-- a pair and its end, which its value may decide
unfoldable pub field : {T : Type 0} → List ℕ → (List ℕ → Option T) → (T → Bool) → List ℕ → Step T
field key rule last s = then (pair key rule s) (λ v t. then (gap (last v) t) (λ _ u. Ok (v, u)))

-- the byte that ends a pair
abbrev pub ender : Bool → ℕ
ender last = cond last 10 32

-- words that spell values: each value has one word, of plain bytes without a space or a newline
pub record Spells {W : Type 0} (spelled : List ℕ → Option W) (text : W → List ℕ) : Type 0 where
  pub there : (x : W) → spelled (text x) ≡ Some x
  pub back : (w : List ℕ) (x : W) → spelled w ≡ Some x → w ≡ text x
  pub whole : (x : W) → word (text x) ≡ text x
  pub plain : (x : W) → plain_text (text x) ≡ true

-- Reading by a rule of which it is known only what it gives for a word: whatever function of the word that is, it is this
-- function's pair, or pair and end, that is read.
abbrev pub ReadsBy : {T : Type 0} → (List ℕ → Option T → Type 0) → List ℕ → List ℕ → Step T → Type 0
ReadsBy {T} gives key s r = (rule : List ℕ → Option T) → ((w : List ℕ) (o : Option T) → gives w o → o ≡ rule w) → r ≡ pair key rule s

abbrev pub FieldBy : {T : Type 0} → (List ℕ → Option T → Type 0) → List ℕ → List ℕ → Step T → Type 0
FieldBy {T} gives key s r = (rule : List ℕ → Option T) → ((w : List ℕ) (o : Option T) → gives w o → o ≡ rule w) → r ≡ field key rule never s
