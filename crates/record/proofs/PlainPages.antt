-- A page that is written passes what is asked of a whole text.
use Rattle.std.proofs.Common.{◌≡◌, ℕ, ◌+◌, ◌-◌, ◌^◌, ◌<◌, ◌≤◌, Bool, true, false, cond, not, ◌||◌, leb, List, [], ◌∷◌, ◌++◌, length, Ok, codes, sym, refl, ap, ◌∙◌, subst, append-nil, arith}
use Rattle.std.proofs.lemmas.Bool.{cond-true, le-leb, leb-true, eq-eqb, and_from, and_parts}
use Rattle.jobs.specs.JobType.{Kind, Lawful, letters}
use Rattle.text.specs.Bytes.{plain_byte, plain_text}
use Rattle.text.specs.Whole.{ended, whole}
use Rattle.text.specs.Written.{word_pair, number_pair}
use Rattle.text.proofs.PlainPairs.{Plain, both, between_plain, word_plain, number_plain, pair_some, number_some, pair_ended, number_ended, some_after}
use Rattle.text.proofs.Wholes.{ended-append, ended_tail, plain_good}
use Rattle.entries.specs.Calls.{call_text}
use Rattle.entries.specs.CallLaws.{call_laws}
use Rattle.entries.specs.declared.entry.Entry.{Entry}
use Rattle.record.specs.Header.{header_text, header_ok}
use Rattle.record.specs.Lines.{shows, task_end, job_pairs, entry_text, entries_text}
use Rattle.entries.specs.HeaderWordLaws.{register_laws, job_laws}
use Rattle.entries.specs.HeaderWords.{register_text, job_text}
use Rattle.std.specs.List.{list_all}
use Rattle.record.specs.Write.{in_range, is_job, page_text}
use Rattle.entries.specs.declared.header.Header.{Header}
use Rattle.record.proofs.HeaderTrips.{ranged}

letters_plain : (w : List ℕ) → letters w ≡ true → plain_text w ≡ true
letters_plain [] h = refl
letters_plain (x ∷ xs) h =
    let p = and_parts (leb 97 x) _ h in
    let q = and_parts (leb x 122) _ p.1 in
    let low : 97 ≤ x = leb-true 97 x p.0 in
    and_from _ _ (between_plain x (omega arith) (omega (arith, leb-true x 122 q.0))) (letters_plain xs q.1)

-- the last pairs of a line, whether it shows its job or not
tail_ended : (b : Bool) (task job1 job2 : ℕ) (key1 key2 : List ℕ) → (0 < length (number_pair (codes "task") task (cond b 32 10) ++ cond b (number_pair key1 job1 32 ++ number_pair key2 job2 10) [])) × (ended (number_pair (codes "task") task (cond b 32 10) ++ cond b (number_pair key1 job1 32 ++ number_pair key2 job2 10) []) ≡ true)
tail_ended true task job1 job2 key1 key2 =
    let last = number_some key2 job2 10 in
    let both = some_after (number_pair key1 job1 32) (number_pair key2 job2 10) last in
    (some_after (number_pair (codes "task") task 32) _ both, ended_tail (number_pair (codes "task") task 32) _ both (ended_tail (number_pair key1 job1 32) _ last (number_ended key2 job2)))
tail_ended false task job1 job2 key1 key2 =
    let same = append-nil (number_pair (codes "task") task 10) in
    (subst (λ l. 0 < length l) (sym same) (number_some (codes "task") task 10), ap ended same ∙ number_ended (codes "task") task)

entry_ended : (kind : Kind) (op : ℕ) (e : Entry) → ended (entry_text kind op e) ≡ true
unfolding entry_text job_pairs
entry_ended kind op e =
    let t = tail_ended (shows e) e.task e.first e.second kind.names.key1 kind.names.key2 in
    let l6 = some_after (number_pair (codes "to") e.to 32) _ t.0 in
    let l5 = some_after (number_pair (codes "mark") e.mark 32) _ l6 in
    let l4 = some_after (number_pair (codes "from") e.from 32) _ l5 in
    let l3 = some_after (word_pair (codes "call") (call_text e.call) 32) _ l4 in
    let l2 = some_after (number_pair (codes "proc") e.processor 32) _ l3 in
    ended_tail (number_pair (codes "op") op 32) _ l2
    (ended_tail (number_pair (codes "proc") e.processor 32) _ l3
    (ended_tail (word_pair (codes "call") (call_text e.call) 32) _ l4
    (ended_tail (number_pair (codes "from") e.from 32) _ l5
    (ended_tail (number_pair (codes "mark") e.mark 32) _ l6
    (ended_tail (number_pair (codes "to") e.to 32) _ t.0 t.1)))))

entries_ended : (kind : Kind) (op : ℕ) (es : List Entry) → ended (entries_text kind op es) ≡ true
entries_ended kind op [] = refl
entries_ended kind op (e ∷ es) = ended-append (entry_text kind (op + 1) e) (entries_text kind (op + 1) es) (entry_ended kind (op + 1) e) (entries_ended kind (op + 1) es)

header_ended : (h : Header) → ended (header_text h) ≡ true
unfolding header_text word_pair
header_ended h =
    let l3 = pair_some (codes "job") (job_text h.job) 10 in
    let l2 = some_after (number_pair (codes "processors") h.processors 32) _ l3 in
    let l1 = some_after (number_pair (codes "places") h.places 32) _ l2 in
    ended_tail (word_pair (codes "register") (register_text h.register) 32) _ l1
    (ended_tail (number_pair (codes "places") h.places 32) _ l2
    (ended_tail (number_pair (codes "processors") h.processors 32) _ l3 (pair_ended (codes "job") (job_text h.job))))

header_plain : (h : Header) → header_ok h ≡ true → Plain (header_text h)
unfolding header_text
header_plain h ok =
    let r = ranged h ok in
    both (word_plain (codes "register") (register_text h.register) 32 refl (register_laws.plain h.register) refl)
    (both (number_plain (codes "places") h.places 32 (omega (arith, r.high_places)) refl refl)
    (both (number_plain (codes "processors") h.processors 32 (omega (arith, r.high_processors)) refl refl)
    (word_plain (codes "job") (job_text h.job) 10 refl (job_laws.plain h.job) refl)))

end_plain : (b : Bool) → plain_byte (cond b 32 10) ≡ true
end_plain true = refl
end_plain false = refl

module _ (kind : Kind) (laws : Lawful kind) where
  job_plain : (b : Bool) (p q : ℕ) → (not b || kind.accepts p q) ≡ true → Plain (cond b (number_pair kind.names.key1 p 32 ++ number_pair kind.names.key2 q 10) [])
  job_plain true p q is =
      let small = laws.small p q is in
      let k1 = letters_plain kind.names.key1 laws.key1_letters in
      let k2 = letters_plain kind.names.key2 laws.key2_letters in
      both (number_plain kind.names.key1 p 32 (omega (arith, small.0)) k1 refl) (number_plain kind.names.key2 q 10 (omega (arith, small.1)) k2 refl)
  job_plain false p q is = record { is = refl }

  module _ (hd : Header) (ok : header_ok hd ≡ true) where
    entry_plain : (op : ℕ) (e : Entry) → op < 2 ^ 64 → in_range hd e ≡ true → is_job kind e ≡ true → Plain (entry_text kind op e)
    unfolding entry_text job_pairs
    entry_plain op e small fits job =
        let r = ranged hd ok in
        let r1 = and_parts (leb e.processor (hd.processors - 1)) _ fits in
        let r2 = and_parts (leb e.from 65535) _ r1.1 in
        let r3 = and_parts (leb e.mark 65535) _ r2.1 in
        let r4 = and_parts (leb e.to 65535) _ r3.1 in
        both (number_plain (codes "op") op 32 small refl refl)
        (both (number_plain (codes "proc") e.processor 32 (omega (arith, leb-true _ _ r1.0, r.high_processors)) refl refl)
        (both (word_plain (codes "call") (call_text e.call) 32 refl (call_laws.plain e.call) refl)
        (both (number_plain (codes "from") e.from 32 (omega (arith, leb-true _ _ r2.0)) refl refl)
        (both (number_plain (codes "mark") e.mark 32 (omega (arith, leb-true _ _ r3.0)) refl refl)
        (both (number_plain (codes "to") e.to 32 (omega (arith, leb-true _ _ r4.0)) refl refl)
        (both (number_plain (codes "task") e.task (task_end e) (omega (arith, leb-true _ _ r4.1, r.high_places)) refl (end_plain (shows e)))
        (job_plain (shows e) e.first e.second job)))))))

    entries_plain : (op : ℕ) (es : List Entry) → op + length es < 2 ^ 64 → list_all (in_range hd) es ≡ true → list_all (is_job kind) es ≡ true → Plain (entries_text kind op es)
    entries_plain op [] small r j = record { is = refl }
    entries_plain op (e ∷ es) small r j =
        let r2 = and_parts (in_range hd e) _ r in
        let j2 = and_parts (is_job kind e) _ j in
        both (entry_plain (op + 1) e (omega arith) r2.0 j2.0) (entries_plain (op + 1) es (omega arith) r2.1 j2.1)

    pub page_whole : (most : ℕ) (es : List Entry) → length es < 2 ^ 64 → list_all (in_range hd) es ≡ true → list_all (is_job kind) es ≡ true → length (page_text kind hd es) ≤ most → whole most (page_text kind hd es) ≡ Ok tt
    unfolding page_text whole
    page_whole most es small r j short =
        let p : Plain (header_text hd ++ entries_text kind 0 es) = both (header_plain hd ok) (entries_plain 0 es (omega arith) r j) in
        cond-true _ _ _ (le-leb _ _ short)
        ∙ cond-true _ _ _ (eq-eqb _ _ (plain_good (header_text hd ++ entries_text kind 0 es) p.is))
        ∙ cond-true _ _ _ (ended-append (header_text hd) (entries_text kind 0 es) (header_ended hd) (entries_ended kind 0 es))
