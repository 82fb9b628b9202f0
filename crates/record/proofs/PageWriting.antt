-- The length of a page, and when it is written.
use Rattle.std.proofs.Common.{◌≡◌, ℕ, ◌≤◌, ◌<◌, true, List, length, Ok, Err, ◌∙◌, arith, length-append}
use Rattle.std.proofs.lemmas.Bool.{cond-true, cond-false, and_from, le-leb, lt-leb}
use Rattle.jobs.specs.JobType.{Kind}
use Rattle.entries.specs.declared.entry.Entry.{Entry}
use Rattle.entries.specs.declared.header.Header.{Header}
use Rattle.record.specs.declared.refusal.WriteRefusal.TheVariants.{PageTooLong}
use Rattle.record.specs.Header.{header_text, header_ok}
use Rattle.record.specs.Lines.{entries_text}
use Rattle.std.specs.List.{list_all}
use Rattle.record.specs.Write.{in_range, is_job, page_text, write_jobs_gives}
use Rattle.record.proofs.Tested.{entries_some}

pub page_some : (kind : Kind) (h : Header) (es : List Entry) → length es ≤ length (page_text kind h es)
unfolding page_text
page_some kind h es = omega (arith, length-append (header_text h) (entries_text kind 0 es), entries_some kind 0 es)

pub page_long : (kind : Kind) (room : ℕ) (h : Header) (es : List Entry) → header_ok h ≡ true → list_all (in_range h) es ≡ true → list_all (is_job kind) es ≡ true
    → 32768 < length (page_text kind h es) → write_jobs_gives kind room h es ≡ Err PageTooLong
unfolding write_jobs_gives
page_long kind room h es header ranged jobs long =
    cond-true _ _ _ (and_from _ _ header ranged) ∙ cond-true _ _ _ jobs ∙ cond-false _ _ _ (lt-leb _ _ long)

pub page_fits : (kind : Kind) (room : ℕ) (h : Header) (es : List Entry) → header_ok h ≡ true → list_all (in_range h) es ≡ true → list_all (is_job kind) es ≡ true
    → length (page_text kind h es) ≤ 32768 → length (page_text kind h es) ≤ room → write_jobs_gives kind room h es ≡ Ok (page_text kind h es)
unfolding write_jobs_gives
page_fits kind room h es header ranged jobs short fits =
    cond-true _ _ _ (and_from _ _ header ranged) ∙ cond-true _ _ _ jobs ∙ cond-true _ _ _ (le-leb _ _ short) ∙ cond-true _ _ _ (le-leb _ _ fits)
