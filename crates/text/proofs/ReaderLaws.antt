-- Each reader takes exactly what is written, if it gives the value of its definition.
use Rattle.std.proofs.Common.{◌≡◌, ℕ, ◌^◌, ◌<◌, Bool, true, eqb, leb, List, [], ◌∷◌, ◌++◌, length, decimal, Some, Option, Result, sym, refl, ap, ◌∙◌, ⊎_elim, arith}
use Rattle.std.proofs.lemmas.Bool.{cond-true, cond-false, cases_Bool, le-leb, leb-true, eq-eqb, eqb-true, and_from}
use Rattle.text.specs.Bytes.{plain_byte, plain_text}
use Rattle.text.specs.Exact.{Between, AnyValue, ReadsNumber, ReadsPair, ReadsEnd, ReadsField, PassesWhole}
use Rattle.text.specs.Figures.{within}
use Rattle.text.specs.Pairs.{Step, word, pair, gap, field, never, Spells}
use Rattle.text.specs.Whole.{whole, from_bad, ended}
use Rattle.text.specs.declared.fault.Fault.{Fault}
use Rattle.text.proofs.Answered.{cond_ok}
use Rattle.text.proofs.Trips.{decimal_whole, within_sound, within_complete, pair_sound, pair_complete, gap_sound, gap_complete, field_sound, field_complete}
use Rattle.text.proofs.Wholes.{plain_good}

pub reads_number : (low most : ℕ) (w : List ℕ) (r : Option ℕ) → most < 2 ^ 64 → r ≡ within low most w → ReadsNumber low most w r
reads_number low most w r small is = record {
  is = is;
  sound = λ n e. within_sound low most n w small (sym is ∙ e);
  complete = λ n l h e. is ∙ ap (within low most) e ∙ within_complete low most n small l h;
}

-- what makes a rule for words the inverse of how values are written
pub record Inverse {T : Type 0} (rule : List ℕ → Option T) (text : T → List ℕ) (good : T → Type 0) : Type 0 where
  pub sound : (w : List ℕ) (v : T) → rule w ≡ Some v → good v × (w ≡ text v)
  pub complete : (v : T) → good v → rule (text v) ≡ Some v
  pub whole : (v : T) → good v → word (text v) ≡ text v

pub numbers : (low most : ℕ) → most < 2 ^ 64 → Inverse (within low most) decimal (Between low most)
numbers low most small = record {
  sound = λ w v e. let q = within_sound low most v w small e in ((q.1, q.2), q.0);
  complete = λ v good. within_complete low most v small good.0 good.1;
  whole = λ v good. decimal_whole v (omega (arith, good.1));
}

pub words : {W : Type 0} (spelled : List ℕ → Option W) (text : W → List ℕ) → Spells spelled text → Inverse spelled text AnyValue
words spelled text laws = record { sound = λ w v e. (tt, laws.back w v e); complete = λ v _. laws.there v; whole = λ v _. laws.whole v }

module _ {T : Type 0} {rule : List ℕ → Option T} {text : T → List ℕ} {good : T → Type 0} (inverse : Inverse rule text good) (key s : List ℕ) (r : Step T) where
  pub reads_pair : r ≡ pair key rule s → ReadsPair key rule text good s r
  reads_pair is = record {
    is = is;
    sound = λ v t e.
        let p = pair_sound key rule s v t (sym is ∙ e) in
        let q = inverse.sound p.0 v p.2 in
        (q.0, p.1 ∙ ap (λ w. key ++ (61 ∷ (w ++ t))) q.1);
    complete = λ v c t good stop e. is ∙ ap (pair key rule) e ∙ pair_complete key rule (text v) v c t (inverse.complete v good) (inverse.whole v good) stop;
  }

  pub reads_field : r ≡ field key rule never s → ReadsField key rule text good s r
  reads_field is = record {
    is = is;
    sound = λ v t e.
        let p = field_sound key rule never s v t (sym is ∙ e) in
        let q = inverse.sound p.0 v p.2 in
        (q.0, p.1 ∙ ap (λ w. key ++ (61 ∷ (w ++ (32 ∷ t)))) q.1);
    complete = λ v t good e. is ∙ ap (field key rule never) e ∙ field_complete key rule never (text v) v t (inverse.complete v good) (inverse.whole v good);
  }

pub reads_end : (last : Bool) (s : List ℕ) (r : Step (Unit {0})) → r ≡ gap last s → ReadsEnd last s r
reads_end last s r is = record {
  is = is;
  sound = λ t e. gap_sound last s t tt (sym is ∙ e);
  complete = λ t e. is ∙ ap (gap last) e ∙ gap_complete last t;
}

-- whole texts
good_plain : (s : List ℕ) → length (from_bad s) ≡ 0 → plain_text s ≡ true
good_plain [] e = refl
good_plain (c ∷ cs) e =
    ⊎_elim
    (λ good. and_from _ _ good (good_plain cs (sym (ap length (cond-true _ _ _ good)) ∙ e)))
    (λ bad. absurd (omega (arith, sym (ap length (cond-false _ _ _ bad)) ∙ e)))
    (cases_Bool (plain_byte c))

pub passes_whole : (most : ℕ) (s : List ℕ) (r : Result (Unit {0}) Fault) → r ≡ whole most s → PassesWhole most s r
unfolding whole
passes_whole most s r is = record {
  is = is;
  sound = λ e.
      let a = cond_ok (leb (length s) most) _ _ tt (sym is ∙ e) in
      let b = cond_ok (eqb (length (from_bad s)) 0) _ _ tt a.1 in
      let c = cond_ok (ended s) _ _ tt b.1 in
      (leb-true _ _ a.0, good_plain s (eqb-true _ 0 b.0), c.0);
  complete = λ short plain end.
      is ∙ cond-true _ _ _ (le-leb _ _ short) ∙ cond-true _ _ _ (eq-eqb _ _ (plain_good s plain)) ∙ cond-true _ _ _ end;
}
