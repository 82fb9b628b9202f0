-- What a job type is: three names, and jobs that are two numbers each.
use Rattle.std.specs.Prelude.{◌≡◌, ℕ, ◌^◌, ◌<◌, Bool, true, ◌&&◌, List, [], ◌∷◌, length, is_some, Some, Option, Result, nat_le}
use Rattle.std.specs.Option.{ok_or}
use Rattle.jobs.specs.declared.job.NoJob.{NoJob}
use Rattle.jobs.specs.declared.job.Words.{Words}

-- the small letters, a to z
abbrev pub letters : List ℕ → Bool
letters [] = true
letters (c ∷ cs) = nat_le 97 c && (nat_le c 122 && letters cs)

-- 1 to 8 small letters
abbrev pub Name : List ℕ → Type 0
Name bs = (nat_le 1 (length bs) && (nat_le (length bs) 8 && letters bs)) ≡ true

-- the name of a job type and its two key names
pub record Names : Type 0 where
  pub name : List ℕ
  pub key1 : List ℕ
  pub key2 : List ℕ

-- the words of the code are these names
pub record Named (words : Words) (names : Names) : Type 0 where
  pub name : words.name.now ≡ names.name
  pub key1 : words.first_key.now ≡ names.key1
  pub key2 : words.second_key.now ≡ names.key2

-- a conversion of two numbers gives the job that they make, or says that they make none
abbrev pub Converts : {J : Type 0} → (ℕ → ℕ → Option J) → ℕ × ℕ → Result J NoJob → Type 0
Converts made v r = r ≡ ok_or (made v.0 v.1) (record {})

-- what every job type owes of its names, of the numbers of a job, and of the job that numbers make
pub record Laws {J : Type 0} (names : Names) (pair : J → ℕ × ℕ) (made : ℕ → ℕ → Option J) : Type 0 where
  pub name_is_name : Name names.name
  pub key1_is_name : Name names.key1
  pub key2_is_name : Name names.key2
  -- accepted numbers fit 32 bits
  pub small : (a b : ℕ) (j : J) → made a b ≡ Some j → (a < 2 ^ 32) × (b < 2 ^ 32)
  -- accepted numbers come back as they were
  pub numbers_back : (a b : ℕ) (j : J) → made a b ≡ Some j → pair j ≡ (a, b)
  -- and so does a job whose numbers are accepted
  pub job_back : (j k : J) → made (pair j).0 (pair j).1 ≡ Some k → k ≡ j

-- what a page knows of a job type: its names, and which numbers it accepts
pub record Kind : Type 0 where
  pub names : Names
  pub accepts : ℕ → ℕ → Bool

abbrev pub kind : {J : Type 0} → Names → (ℕ → ℕ → Option J) → Kind
kind names made = record { names = names; accepts = λ a b. is_some (made a b) }

-- what a page relies on: names of letters, and numbers that fit 32 bits
pub record Lawful (k : Kind) : Type 0 where
  pub name_letters : letters k.names.name ≡ true
  pub key1_letters : letters k.names.key1 ≡ true
  pub key2_letters : letters k.names.key2 ≡ true
  pub small : (a b : ℕ) → k.accepts a b ≡ true → (a < 2 ^ 32) × (b < 2 ^ 32)
