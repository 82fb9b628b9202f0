-- The header that is written is read as it was, and a header that is read is one that is written.
use Rattle.std.proofs.Common.{◌≡◌, ℕ, ◌≤◌, true, leb, List, ◌++◌, Ok, codes, sym, refl, ap, ◌∙◌, subst, append_assoc, arith}
use Rattle.std.proofs.lemmas.Bool.{le-leb, leb-true, and_from, and_parts}
use Rattle.text.specs.Written.{word_pair, number_pair}
use Rattle.text.proofs.Answered.{ok_inj}
use Rattle.text.proofs.Trips.{then_on, then_at, gap_complete}
use Rattle.text.proofs.PairTrips.{number_sound, number_complete, word_sound, word_complete, last_word_sound, last_word_complete}
use Rattle.record.specs.Header.{header_text, header_ok, read_header}
use Rattle.entries.specs.HeaderWordLaws.{register_laws, job_laws}
use Rattle.entries.specs.HeaderWords.{register_text, register_of, job_text, job_of}
use Rattle.entries.specs.declared.header.Header.{Header}

-- what a header in its ranges has
pub record Ranged (h : Header) : Type 0 where
  pub low_places : 3 ≤ h.places
  pub high_places : h.places ≤ 257
  pub low_processors : 1 ≤ h.processors
  pub high_processors : h.processors ≤ 16

pub ranged : (h : Header) → header_ok h ≡ true → Ranged h
ranged h ok =
    let r1 = and_parts (leb 3 h.places) _ ok in
    let r2 = and_parts (leb h.places 257) _ r1.1 in
    let r3 = and_parts (leb 1 h.processors) _ r2.1 in
    record {
      low_places = leb-true _ _ r1.0;
      high_places = leb-true _ _ r2.0;
      low_processors = leb-true _ _ r3.0;
      high_processors = leb-true _ _ r3.1;
    }

-- the parts of a header, one after another
header_parts : (x : Header) (s s1 s2 s3 t : List ℕ) → s ≡ word_pair (codes "register") (register_text x.register) 32 ++ s1 → s1 ≡ number_pair (codes "places") x.places 32 ++ s2 → s2 ≡ number_pair (codes "processors") x.processors 32 ++ s3 → s3 ≡ word_pair (codes "job") (job_text x.job) 10 ++ t → s ≡ header_text x ++ t
unfolding header_text
header_parts x s s1 s2 s3 t a b c d = simp append_assoc (cc)

pub header_sound : (s : List ℕ) (h : Header) (t : List ℕ) → read_header s ≡ Ok (h, t) → (s ≡ header_text h ++ t) × (header_ok h ≡ true)
unfolding read_header
header_sound s h t e =
    then_on _ _ _ e (λ register s1 e1 h1.
    then_on _ _ _ h1 (λ places s2 e2 h2.
    then_on _ _ _ h2 (λ processors s3 e3 h3.
    then_on _ _ _ h3 (λ job s4 e4 h4.
    then_on _ _ _ h4 (λ u s5 e5 h5.
    let b = number_sound (codes "places") 3 257 s1 places s2 (omega arith) e2 in
    let c = number_sound (codes "processors") 1 16 s2 processors s3 (omega arith) e3 in
    let x : Header = record { register = register; places = places; processors = processors; job = job } in
    let P : Header × List ℕ → Type 0 = λ p. (s ≡ header_text p.0 ++ p.1) × (header_ok p.0 ≡ true) in
    subst P (ok_inj h5) (
      header_parts x s s1 s2 s3 s5
          (word_sound (codes "register") register_of register_text register_laws s register s1 e1)
          b.0 c.0
          (last_word_sound (codes "job") job_of job_text job_laws true s3 job s4 s5 u e4 e5),
      and_from _ _ (le-leb _ _ b.1) (and_from _ _ (le-leb _ _ b.2) (and_from _ _ (le-leb _ _ c.1) (le-leb _ _ c.2))),
    ))))))

pub header_complete : (h : Header) (t : List ℕ) → header_ok h ≡ true → read_header (header_text h ++ t) ≡ Ok (h, t)
unfolding read_header
header_complete h t ok =
    let r = ranged h ok in
    ap read_header (sym (header_parts h _ _ _ _ t refl refl refl refl))
    ∙ then_at _ (word_complete (codes "register") register_of register_text register_laws h.register _)
    ∙ then_at _ (number_complete (codes "places") 3 257 h.places _ (omega arith) r.low_places r.high_places)
    ∙ then_at _ (number_complete (codes "processors") 1 16 h.processors _ (omega arith) r.low_processors r.high_processors)
    ∙ then_at _ (last_word_complete (codes "job") job_of job_text job_laws true h.job t)
    ∙ then_at _ (gap_complete true t)
