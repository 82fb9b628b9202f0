-- What a page relies on of a job type follows from what every job type owes.
use Rattle.std.proofs.Common.{◌≡◌, ℕ, true, leb, List, length, is_some, Some, None, Option, refl}
use Rattle.std.proofs.lemmas.Bool.{and_parts, false≢true}
use Rattle.jobs.specs.JobType.{Names, Name, letters, Laws, Lawful, kind}

name_letters : (w : List ℕ) → Name w → letters w ≡ true
name_letters w h = (and_parts (leb (length w) 8) _ (and_parts (leb 1 (length w)) _ h).1).1

some_of : {J : Type 0} (o : Option J) → is_some o ≡ true → (j : J) × (o ≡ Some j)
some_of (Some j) e = (j, refl)
some_of None e = absurd (false≢true e)

pub lawful : {J : Type 0} (names : Names) (pair : J → ℕ × ℕ) (made : ℕ → ℕ → Option J) → Laws names pair made → Lawful (kind names made)
lawful names pair made laws = record {
  name_letters = name_letters names.name laws.name_is_name;
  key1_letters = name_letters names.key1 laws.key1_is_name;
  key2_letters = name_letters names.key2 laws.key2_is_name;
  small = λ a b e. let o = some_of (made a b) e in laws.small a b o.0 o.1;
}
