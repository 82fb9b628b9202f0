-- The pages that are written are the texts that are read.
use Rattle.std.proofs.Common.{◌≡◌, ℕ, ◌+◌, ◌^◌, ◌<◌, ◌≤◌, true, ◌&&◌, leb, List, ◌++◌, min, map, length, take, Ok, Err, Result, sym, refl, ap, ◌∙◌, subst, arith, length-append}
use lib.ListN.{length-map}
use Rattle.std.proofs.lemmas.Bool.{leb-true, and_parts}
use Rattle.jobs.specs.CheckLaws.{check_laws}
use Rattle.jobs.specs.JobType.{Lawful}
use Rattle.jobs.specs.SpanLaws.{span_laws}
use Rattle.jobs.proofs.LawfulKinds.{lawful}
use Rattle.text.specs.Pairs.{Step}
use Rattle.text.specs.Whole.{whole}
use Rattle.text.specs.Written.{written}
use Rattle.text.specs.WrittenLaws.{take_front}
use Rattle.text.specs.declared.fault.Fault.{Fault}
use Rattle.text.specs.declared.fault.PlacedFault.{PlacedFault}
use Rattle.text.proofs.Answered.{ok_inj, cond_ok}
use Rattle.entries.specs.declared.entry.Entry.{Entry}
use Rattle.record.specs.Header.{header_text, header_ok, read_header}
use Rattle.record.specs.Lines.{entries_text, as_shown}
use Rattle.record.specs.Read.{read_entries, with_header, after_header, if_whole, read_page_gives, read_answer, list_of_page}
use Rattle.record.specs.Trip.{Makes, TakesWhatIsWritten, MakesWhatIsRead}
use Rattle.entries.specs.HeaderWords.{job_kind}
use Rattle.std.specs.List.{list_all}
use Rattle.record.specs.Write.{in_range, is_job, page_text, write_jobs_gives, write_page_gives, text_size, buffer_after}
use Rattle.entries.specs.declared.header.Header.{Header}
use Rattle.entries.specs.declared.header.JobKind.{JobKind}
use Rattle.entries.specs.declared.header.JobKind.TheVariants.{Check, Span}
use Rattle.record.specs.declared.refusal.WriteRefusal.{WriteRefusal}
use Rattle.record.proofs.HeaderTrips.{ranged, header_sound, header_complete}
use Rattle.record.proofs.LineTrips.{room_min, lines_sound, lines_complete}
use Rattle.record.proofs.Paged.{page_is}
use Rattle.record.proofs.PageWriting.{page_some, page_fits}
use Rattle.record.proofs.PlainPages.{page_whole}
use Rattle.record.proofs.ReadLines.{lines_within}

pub job_lawful : (j : JobKind) → Lawful (job_kind j)
job_lawful Check = lawful _ _ _ check_laws
job_lawful Span = lawful _ _ _ span_laws

-- room for 32,768 entries is enough for the lines of a page
pub room_for : (h : Header) → header_ok h ≡ true → (room : ℕ) (s : List ℕ) → length s ≤ 32768
    → read_entries (job_kind h.job) h (min room 32768) 0 s ≡ read_entries (job_kind h.job) h room 0 s
room_for h ok room s short = let r = ranged h ok in room_min (job_kind h.job) (job_lawful h.job) h r.high_processors r.high_places 32768 room s short (omega arith)

-- what a written page has, and a text that is read
record IsPage (s : List ℕ) (h : Header) (es : List Entry) : Type 0 where
  text : s ≡ page_text (job_kind h.job) h es
  header : header_ok h ≡ true
  fields : list_all (in_range h) es ≡ true
  jobs : list_all (is_job (job_kind h.job)) es ≡ true
  short : length s ≤ 32768

if_whole_on : {P : Type 0} (w : Result (Unit {0}) Fault) (r : Result (Header × List Entry) Fault) (y : Header × List Entry) → if_whole w r ≡ Ok y → (w ≡ Ok tt → r ≡ Ok y → P) → P
if_whole_on (Ok tt) r y e on = on refl e
if_whole_on (Err f) r y e on = cc

after_header_on : {P : Type 0} (r : Step Header) (k : Header → List ℕ → Result (Header × List Entry) Fault) (y : Header × List Entry) → after_header r k ≡ Ok y → ((h : Header) (t : List ℕ) → r ≡ Ok (h, t) → k h t ≡ Ok y → P) → P
after_header_on (Ok p) k y e on = on p.0 p.1 refl e
after_header_on (Err f) k y e on = cc

with_header_on : {P : Type 0} (h : Header) (r : Result (List Entry) Fault) (y : Header × List Entry) → with_header h r ≡ Ok y → ((es : List Entry) → r ≡ Ok es → (h, es) ≡ y → P) → P
with_header_on h (Ok es) y e on = on es refl (ok_inj e)
with_header_on h (Err f) y e on = cc

whole_short : (s : List ℕ) → whole 32768 s ≡ Ok tt → length s ≤ 32768
unfolding whole
whole_short s e = leb-true _ _ (cond_ok (leb (length s) 32768) _ _ tt e).0

-- what follows a header is no longer than a page
pub rest_short : (s : List ℕ) (u : Unit {0}) (h : Header) (t : List ℕ) → whole 32768 s ≡ Ok u → read_header s ≡ Ok (h, t) → length t ≤ 32768
rest_short s tt h t w e = omega (arith, whole_short s w, ap length (header_sound s h t e).0, length-append (header_text h) t)

page_sound : (k : ℕ) (s : List ℕ) (h : Header) (es : List Entry) → read_page_gives k s ≡ Ok (h, es) → IsPage s h es × (length es ≤ k)
unfolding read_page_gives page_text
page_sound k s h es e =
    if_whole_on (whole 32768 s) (after_header (read_header s) (λ h t. with_header h (read_entries (job_kind h.job) h k 0 t))) (h, es) e (λ w e1.
    after_header_on (read_header s) (λ h t. with_header h (read_entries (job_kind h.job) h k 0 t)) (h, es) e1 (λ h' t e2 e3.
    with_header_on h' (read_entries (job_kind h'.job) h' k 0 t) (h, es) e3 (λ es' e4 same.
    let a = header_sound s h' t e2 in
    let r = ranged h' a.1 in
    let few = whole_short s w in
    let fewer : 0 + length t < 2 ^ 64 = omega (arith, ap length a.0, length-append (header_text h') t) in
    let b = lines_sound (job_kind h'.job) (job_lawful h'.job) h' r.high_processors r.high_places k 0 t es' fewer e4 in
    let P : Header × List Entry → Type 0 = λ p. IsPage s p.0 p.1 × (length p.1 ≤ k) in
    subst P same (record { text = a.0 ∙ ap (λ l. header_text h' ++ l) b.0; header = a.1; fields = b.1; jobs = b.2; short = few }, lines_within (job_kind h'.job) h' k 0 t es' e4))))

page_complete : (k : ℕ) (s : List ℕ) (h : Header) (es : List Entry) → IsPage s h es → length es ≤ k → read_page_gives k s ≡ Ok (h, map as_shown es)
unfolding page_text
page_complete k s h es p fits =
    let kind = job_kind h.job in
    let laws = job_lawful h.job in
    let r = ranged h p.header in
    let short = subst (λ l. length l ≤ 32768) p.text p.short in
    let few = page_some kind h es in
    ap (read_page_gives k) p.text
    ∙ page_is k (page_text kind h es) tt h (entries_text kind 0 es) (page_whole kind laws h p.header 32768 es (omega arith) p.fields p.jobs short) (header_complete h (entries_text kind 0 es) p.header)
    ∙ ap (with_header h) (lines_complete kind laws h r.high_processors r.high_places k 0 es (omega arith) fits p.fields p.jobs)

page_written : (room : ℕ) (h : Header) (es : List Entry) (t : List ℕ) → write_page_gives room h es ≡ Ok t → IsPage t h es × (length t ≤ room)
unfolding write_jobs_gives
page_written room h es t e =
    let kind = job_kind h.job in
    let a = cond_ok (header_ok h && list_all (in_range h) es) _ _ t e in
    let z = and_parts (header_ok h) _ a.0 in
    let b = cond_ok (list_all (is_job kind) es) _ _ t a.1 in
    let c = cond_ok (leb (length (page_text kind h es)) 32768) _ _ t b.1 in
    let d = cond_ok (leb (length (page_text kind h es)) room) _ _ t c.1 in
    let same = ok_inj d.1 in
    (record { text = sym same; header = z.0; fields = z.1; jobs = b.0; short = subst (λ l. length l ≤ 32768) same (leb-true _ _ c.0) }, subst (λ l. length l ≤ room) same (leb-true _ _ d.0))

page_again : (room : ℕ) (t : List ℕ) (h : Header) (es : List Entry) → IsPage t h es → length t ≤ room → write_page_gives room h es ≡ Ok t
page_again room t h es p fits =
    page_fits (job_kind h.job) room h es p.header p.fields p.jobs (subst (λ l. length l ≤ 32768) p.text p.short) (subst (λ l. length l ≤ room) p.text fits) ∙ ap Ok (sym p.text)

answer_ok : (s : List ℕ) (r : Result (Header × List Entry) Fault) (h : Header) (n : ℕ) → read_answer s r ≡ Ok (h, n) → (es : List Entry) × (r ≡ Ok (h, es)) × (n ≡ length es)
answer_ok s (Ok p) h n e =
    let same = ok_inj e in
    (p.1, ap (λ x. Ok (x.0, p.1)) same, sym (ap (λ x. x.1) same))
answer_ok s (Err f) h n e = cc

size_ok : (r : Result (List ℕ) WriteRefusal) (n : ℕ) → text_size r ≡ Ok n → (t : List ℕ) × (r ≡ Ok t) × (n ≡ length t)
size_ok (Ok t) n e = (t, refl, sym (ok_inj e))
size_ok (Err f) n e = cc

takes_what_is_written : (text : List ℕ) (list : List Entry) → TakesWhatIsWritten text (length list) (read_answer text (read_page_gives (length list) text)) (list_of_page (read_page_gives (length list) text) list)
takes_what_is_written text list = record {
  accepts = λ h es made fits.
      let r = page_complete (length list) text h es (page_written (length text) h es text made).0 fits in
      let long = length-map es as_shown in (
        ap (read_answer text) r ∙ ap (λ n. Ok (h, n)) long,
        ap (λ x. take (length es) (list_of_page x list)) r ∙ ap (λ n. take n (written list 0 (map as_shown es))) (sym long) ∙ take_front list (map as_shown es) (omega arith),
      );
  makes_again = λ h n e.
      let a = answer_ok text (read_page_gives (length list) text) h n e in
      let p = page_sound (length list) text h a.0 a.1 in
      let front = ap (λ x. take n (list_of_page x list)) a.1 ∙ ap (λ m. take m (written list 0 a.0)) a.2 ∙ take_front list a.0 p.1 in
      let few = p.1 in
      (omega (arith, a.2), subst (λ l. Makes text h l) (sym front) (page_again (length text) text h a.0 p.0 (omega arith)));
}

makes_what_is_read : (out : List ℕ) (h : Header) (es : List Entry) → MakesWhatIsRead h es (text_size (write_page_gives (length out) h es)) (buffer_after (write_page_gives (length out) h es) out)
makes_what_is_read out h es = record {
  reads = λ n room e fits.
      let a = size_ok (write_page_gives (length out) h es) n e in
      let p = page_written (length out) h es a.0 a.1 in
      let front = ap (λ x. take n (buffer_after x out)) a.1 ∙ ap (λ m. take m (written out 0 a.0)) a.2 ∙ take_front out a.0 p.1 in
      ap (read_page_gives room) front ∙ page_complete room a.0 h es p.0 fits;
}

pub takes_written : (text : List ℕ) (list after : List Entry) (answer : Result (Header × ℕ) PlacedFault) → answer ≡ read_answer text (read_page_gives (length list) text) → after ≡ list_of_page (read_page_gives (length list) text) list → TakesWhatIsWritten text (length list) answer after
takes_written text list after answer value filled =
    subst (λ (p : Result (Header × ℕ) PlacedFault × List Entry). TakesWhatIsWritten text (length list) p.0 p.1) (λ i. (sym value i, sym filled i)) (takes_what_is_written text list)

pub makes_read : (out after : List ℕ) (h : Header) (es : List Entry) (answer : Result ℕ WriteRefusal) → answer ≡ text_size (write_page_gives (length out) h es) → after ≡ buffer_after (write_page_gives (length out) h es) out → MakesWhatIsRead h es answer after
makes_read out after h es answer value bytes =
    subst (λ (p : Result ℕ WriteRefusal × List ℕ). MakesWhatIsRead h es p.0 p.1) (λ i. (sym value i, sym bytes i)) (makes_what_is_read out h es)
