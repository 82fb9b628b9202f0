-- The lines that are written are read as they are shown, and lines that are read are lines that are written.
use Rattle.std.proofs.Common.{◌≡◌, ℕ, zero, suc, ◌+◌, ◌-◌, ◌^◌, ◌<◌, ◌≤◌, min, Bool, true, false, cond, not, ◌||◌, leb, ◌⊎◌, List, [], ◌∷◌, ◌++◌, map, length, Ok, Err, codes, sym, refl, ap, ◌∙◌, subst, ⊎_elim, append_assoc, arith, length-append}
use Rattle.std.proofs.lemmas.Bool.{cond-true, cond-false, cases_Bool, le-leb, leb-true, and_from, and_parts}
use Rattle.jobs.specs.JobType.{Kind, Lawful}
use Rattle.text.specs.Figures.{within}
use Rattle.text.specs.Pairs.{fault, then, pair, gap, ender}
use Rattle.text.specs.Written.{word_pair, number_pair}
use Rattle.text.specs.declared.fault.Refusal.TheVariants.{ListFull}
use Rattle.text.proofs.Answered.{ok_inj}
use Rattle.text.proofs.Trips.{then_ok, then_on, then_at, gap_complete}
use Rattle.text.proofs.PairTrips.{number_sound, number_complete, last_sound, last_complete, word_sound, word_complete}
use Rattle.entries.specs.Calls.{call_text, call_of}
use Rattle.entries.specs.CallLaws.{call_laws}
use Rattle.entries.specs.declared.entry.Entry.{Entry}
use Rattle.entries.specs.declared.header.Header.{Header}
use Rattle.record.specs.Lines.{shown, shows, task_end, job_pairs, entry_text, entries_text, as_shown}
use Rattle.record.specs.Read.{read_job, read_shown, read_entry_gives, read_entries, with_first}
use Rattle.std.specs.List.{list_all}
use Rattle.record.specs.Write.{in_range, is_job}
use Rattle.record.proofs.ReadLines.{lines_none, lines_more, after_line_on, after_line_same, with_first_on}
use Rattle.record.proofs.Tested.{entry_some}

le_or : (m n : ℕ) → (m ≤ n) ⊎ (n < m)
le_or m n = grind arith

ender_not : (b : Bool) → ender (not b) ≡ cond b 32 10
ender_not true = refl
ender_not false = refl

module _ (kind : Kind) (laws : Lawful kind) where
  abbrev pairs : ℕ × ℕ → List ℕ
  pairs j = number_pair kind.names.key1 j.0 32 ++ number_pair kind.names.key2 j.1 10

  job_sound : (s : List ℕ) (j : ℕ × ℕ) (t : List ℕ) → read_job kind s ≡ Ok (j, t) → (s ≡ pairs j ++ t) × (kind.accepts j.0 j.1 ≡ true)
  unfolding read_job
  job_sound s j t e =
      let p = then_ok _ _ _ e in
      let q = then_ok _ _ _ p.3 in
      let r = then_ok _ _ _ q.3 in
      let a = number_sound kind.names.key1 0 (2 ^ 32 - 1) s p.0 p.1 (omega arith) p.2 in
      let b = last_sound kind.names.key2 0 (2 ^ 32 - 1) true p.1 q.0 q.1 r.1 r.0 (omega arith) q.2 r.2 in
      ⊎_elim
      (λ yes-job.
      let both = ok_inj (sym (cond-true _ _ _ yes-job) ∙ r.3) in
      let P : (ℕ × ℕ) × List ℕ → Type 0 = λ x. (s ≡ pairs x.0 ++ x.1) × (kind.accepts x.0.0 x.0.1 ≡ true) in
      subst P both (a.0 ∙ ap (λ l. number_pair kind.names.key1 p.0 32 ++ l) b.0 ∙ sym (append_assoc (number_pair kind.names.key1 p.0 32) (number_pair kind.names.key2 q.0 10) r.1), yes-job))
      (λ no-job. (cc (sym (cond-false _ _ _ no-job) ∙ r.3)))
      (cases_Bool (kind.accepts p.0 q.0))

  shown_sound : (b : Bool) (s : List ℕ) (j : ℕ × ℕ) (t : List ℕ) → read_shown kind b s ≡ Ok (j, t) → (s ≡ cond b (pairs j) [] ++ t) × ((not b || kind.accepts j.0 j.1) ≡ true)
  shown_sound true s j t e = job_sound s j t e
  shown_sound false s j t e = (ap (λ x. x.1) (ok_inj e), refl)

  module _ (hd : Header) (some : hd.processors ≤ 16) (few : hd.places ≤ 257) where
    pub record Sound (op : ℕ) (s : List ℕ) (e : Entry) (t : List ℕ) : Type 0 where
      pub text : s ≡ entry_text kind op e ++ t
      pub ranged : in_range hd e ≡ true
      pub job : is_job kind e ≡ true

    shorter : (op : ℕ) (s : List ℕ) (e : Entry) (t : List ℕ) → Sound op s e t → length t < length s
    shorter op s e t sound = omega (arith, ap length sound.text, length-append (entry_text kind op e) t, entry_some kind op e)

    -- the parts of a line, one after another
    line_text : (op : ℕ) (x : Entry) (s s1 s2 s3 s4 s5 s6 s8 t : List ℕ) → s ≡ number_pair (codes "op") op 32 ++ s1 → s1 ≡ number_pair (codes "proc") x.processor 32 ++ s2 → s2 ≡ word_pair (codes "call") (call_text x.call) 32 ++ s3 → s3 ≡ number_pair (codes "from") x.from 32 ++ s4 → s4 ≡ number_pair (codes "mark") x.mark 32 ++ s5 → s5 ≡ number_pair (codes "to") x.to 32 ++ s6 → s6 ≡ number_pair (codes "task") x.task (task_end x) ++ s8 → s8 ≡ job_pairs kind x 10 ++ t → s ≡ entry_text kind op x ++ t
    unfolding entry_text
    line_text op x s s1 s2 s3 s4 s5 s6 s8 t a b c d e f g h = simp append_assoc (cc)

    pub entry_sound : (op : ℕ) (s : List ℕ) (e : Entry) (t : List ℕ) → op < 2 ^ 64 → read_entry_gives kind hd op s ≡ Ok (e, t) → Sound op s e t
    unfolding read_entry_gives entry_text job_pairs
    entry_sound op s e t small h =
        then_on _ _ _ h (λ op' s1 e1 h1.
        then_on _ _ _ h1 (λ processor s2 e2 h2.
        then_on _ _ _ h2 (λ call s3 e3 h3.
        then_on _ _ _ h3 (λ from s4 e4 h4.
        then_on _ _ _ h4 (λ mark s5 e5 h5.
        then_on _ _ _ h5 (λ to s6 e6 h6.
        then_on _ _ _ h6 (λ task s7 e7 h7.
        then_on _ _ _ h7 (λ u s8 e8 h8.
        then_on _ _ _ h8 (λ job s9 e9 h9.
        let a = number_sound (codes "op") op op s op' s1 small e1 in
        let b = number_sound (codes "proc") 0 (hd.processors - 1) s1 processor s2 (omega arith) e2 in
        let d = number_sound (codes "from") 0 65535 s3 from s4 (omega arith) e4 in
        let f = number_sound (codes "mark") 0 65535 s4 mark s5 (omega arith) e5 in
        let g = number_sound (codes "to") 0 65535 s5 to s6 (omega arith) e6 in
        let k = last_sound (codes "task") 0 (hd.places - 2) (not (shown call to task)) s6 task s7 s8 u (omega arith) e7 e8 in
        let j = shown_sound (shown call to task) s8 job s9 e9 in
        let same : op' ≡ op = omega (arith, a.1, a.2) in
        let x : Entry = record { processor = processor; call = call; from = from; mark = mark; to = to; task = task; first = job.0; second = job.1 } in
        subst (λ p. Sound op s p.0 p.1) (ok_inj h9) (record {
          text = line_text op x s s1 s2 s3 s4 s5 s6 s8 s9 (a.0 ∙ ap (λ n. number_pair (codes "op") n 32 ++ s1) same) b.0 (word_sound (codes "call") call_of call_text call_laws s2 call s3 e3) d.0 f.0 g.0 (k.0 ∙ ap (λ n. number_pair (codes "task") task n ++ s8) (ender_not (shown call to task))) j.0;
          ranged = and_from _ _ (le-leb _ _ b.2) (and_from _ _ (le-leb _ _ d.2) (and_from _ _ (le-leb _ _ f.2) (and_from _ _ (le-leb _ _ g.2) (le-leb _ _ k.2))));
          job = j.1;
        }))))))))))

    job_complete : (a b : ℕ) (t : List ℕ) → a < 2 ^ 32 → b < 2 ^ 32 → kind.accepts a b ≡ true → read_job kind (pairs (a, b) ++ t) ≡ Ok ((a, b), t)
    unfolding read_job then
    job_complete a b t small1 small2 is =
        let s = number_pair kind.names.key1 a 32 ++ (number_pair kind.names.key2 b 10 ++ t) in
        let e1 = number_complete kind.names.key1 0 (2 ^ 32 - 1) a (number_pair kind.names.key2 b 10 ++ t) (omega arith) (omega arith) (omega arith) in
        let e2 = last_complete kind.names.key2 0 (2 ^ 32 - 1) true b t (omega arith) (omega arith) (omega arith) in
        rw append_assoc (rw (e1, e2, gap_complete true t, is))

    shown_complete : (b : Bool) (p q : ℕ) (t : List ℕ) → (not b || kind.accepts p q) ≡ true → read_shown kind b (cond b (pairs (p, q)) [] ++ t) ≡ Ok ((cond b p 0, cond b q 0), t)
    shown_complete true p q t is =
        let small = laws.small p q is in
        job_complete p q t small.0 small.1 is
    shown_complete false p q t is = refl

    pub entry_complete : (op : ℕ) (x : Entry) (t : List ℕ) → op < 2 ^ 64 → in_range hd x ≡ true → is_job kind x ≡ true → read_entry_gives kind hd op (entry_text kind op x ++ t) ≡ Ok (as_shown x, t)
    unfolding read_entry_gives job_pairs
    entry_complete op x t small ranged job =
        let r1 = and_parts (leb x.processor (hd.processors - 1)) _ ranged in
        let r2 = and_parts (leb x.from 65535) _ r1.1 in
        let r3 = and_parts (leb x.mark 65535) _ r2.1 in
        let r4 = and_parts (leb x.to 65535) _ r3.1 in
        let last = not (shows x) in
        ap (read_entry_gives kind hd op) (sym (line_text op x _ _ _ _ _ _ _ _ t refl refl refl refl refl refl refl refl))
        ∙ then_at _ (number_complete (codes "op") op op op _ small (omega arith) (omega arith))
        ∙ then_at _ (number_complete (codes "proc") 0 (hd.processors - 1) x.processor _ (omega arith) (omega arith) (leb-true _ _ r1.0))
        ∙ then_at _ (word_complete (codes "call") call_of call_text call_laws x.call _)
        ∙ then_at _ (number_complete (codes "from") 0 65535 x.from _ (omega arith) (omega arith) (leb-true _ _ r2.0))
        ∙ then_at _ (number_complete (codes "mark") 0 65535 x.mark _ (omega arith) (omega arith) (leb-true _ _ r3.0))
        ∙ then_at _ (number_complete (codes "to") 0 65535 x.to _ (omega arith) (omega arith) (leb-true _ _ r4.0))
        ∙ then_at _ (subst (λ n. pair (codes "task") (within 0 (hd.places - 2)) (number_pair (codes "task") x.task n ++ (job_pairs kind x 10 ++ t)) ≡ Ok (x.task, n ∷ (job_pairs kind x 10 ++ t))) (ender_not (shows x))
        (last_complete (codes "task") 0 (hd.places - 2) last x.task (job_pairs kind x 10 ++ t) (omega arith) (omega arith) (leb-true _ _ r4.1)))
        ∙ then_at _ (subst (λ n. gap last (n ∷ (job_pairs kind x 10 ++ t)) ≡ Ok (tt, job_pairs kind x 10 ++ t)) (ender_not (shows x)) (gap_complete last (job_pairs kind x 10 ++ t)))
        ∙ then_at _ (shown_complete (shows x) x.first x.second t job)

    pub lines_sound : (k op : ℕ) (s : List ℕ) (es : List Entry) → op + length s < 2 ^ 64 → read_entries kind hd k op s ≡ Ok es → (s ≡ entries_text kind op es) × (list_all (in_range hd) es ≡ true) × (list_all (is_job kind) es ≡ true)
    lines_sound zero op [] es small h = let none = ok_inj h in (ap (entries_text kind op) none, ap (list_all (in_range hd)) (sym none), ap (list_all (is_job kind)) (sym none))
    lines_sound zero op (c ∷ cs) es small h =
        after_line_on (read_entry_gives kind hd (op + 1) (c ∷ cs)) (λ e t. Err (fault ListFull (c ∷ cs))) es h (λ x t e1 h1. cc)
    lines_sound (suc k) op [] es small h = let none = ok_inj h in (ap (entries_text kind op) none, ap (list_all (in_range hd)) (sym none), ap (list_all (is_job kind)) (sym none))
    lines_sound (suc k) op (c ∷ cs) es small h =
        after_line_on (read_entry_gives kind hd (op + 1) (c ∷ cs)) (λ e t. with_first e (read_entries kind hd k (op + 1) t)) es h (λ x t e1 h1.
        with_first_on x (read_entries kind hd k (op + 1) t) es h1 (λ fs e2 is.
        let one = entry_sound (op + 1) (c ∷ cs) x t (omega arith) e1 in
        let fewer = shorter (op + 1) (c ∷ cs) x t one in
        let rest = lines_sound k (op + 1) t fs (omega arith) e2 in
        let P : List Entry → Type 0 = λ l. (c ∷ cs ≡ entries_text kind op l) × (list_all (in_range hd) l ≡ true) × (list_all (is_job kind) l ≡ true) in
        subst P (sym is) (one.text ∙ ap (λ l. entry_text kind (op + 1) x ++ l) rest.0, and_from _ _ one.ranged rest.1, and_from _ _ one.job rest.2)))

    pub lines_complete : (k op : ℕ) (es : List Entry) → op + length es < 2 ^ 64 → length es ≤ k → list_all (in_range hd) es ≡ true → list_all (is_job kind) es ≡ true → read_entries kind hd k op (entries_text kind op es) ≡ Ok (map as_shown es)
    lines_complete k op [] small few-es r j = lines_none kind hd k op [] refl
    lines_complete zero op (x ∷ xs) small few-es r j = absurd (omega arith)
    lines_complete (suc k) op (x ∷ xs) small few-es r j =
        let r2 = and_parts (in_range hd x) _ r in
        let j2 = and_parts (is_job kind x) _ j in
        let s = entry_text kind (op + 1) x ++ entries_text kind (op + 1) xs in
        let some-text : 0 < length s = omega (arith, length-append (entry_text kind (op + 1) x) (entries_text kind (op + 1) xs), entry_some kind (op + 1) x) in
        lines_more kind hd k op s (entries_text kind (op + 1) xs) (as_shown x) some-text (entry_complete (op + 1) x (entries_text kind (op + 1) xs) (omega arith) r2.0 j2.0)
        ∙ ap (with_first (as_shown x)) (lines_complete k (op + 1) xs (omega arith) (omega arith) r2.1 j2.1)

    -- a list with room for every byte has room for every line
    pub rooms : (j k op : ℕ) (s : List ℕ) → op + length s < 2 ^ 64 → length s ≤ j → length s ≤ k → read_entries kind hd j op s ≡ read_entries kind hd k op s
    rooms j k op [] small a b = lines_none kind hd j op [] refl ∙ sym (lines_none kind hd k op [] refl)
    rooms zero k op (c ∷ cs) small a b = absurd (omega arith)
    rooms (suc j) zero op (c ∷ cs) small a b = absurd (omega arith)
    rooms (suc j) (suc k) op (c ∷ cs) small a b =
        after_line_same (read_entry_gives kind hd (op + 1) (c ∷ cs)) _ _ (λ x t e.
        let fewer = shorter (op + 1) (c ∷ cs) x t (entry_sound (op + 1) (c ∷ cs) x t (omega arith) e) in
        ap (with_first x) (rooms j k (op + 1) t (omega arith) (omega arith) (omega arith)))

    pub room_min : (most k : ℕ) (s : List ℕ) → length s ≤ most → most < 2 ^ 63 → read_entries kind hd (min k most) 0 s ≡ read_entries kind hd k 0 s
    room_min most k s short small =
        ⊎_elim
        (λ fits. let same : min k most ≡ k = omega arith in ap (λ n. read_entries kind hd n 0 s) same)
        (λ over. rooms (min k most) k 0 s (omega arith) (omega arith) (omega arith))
        (le_or k most)
