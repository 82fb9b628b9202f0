-- The page that the writer makes, or why it makes none.
use Rattle.std.specs.Prelude.{ℕ, ◌-◌, Bool, cond, not, ◌&&◌, ◌||◌, List, ◌++◌, length, Ok, Err, Result, nat_le}
use Rattle.std.specs.List.{list_all}
use Rattle.jobs.specs.JobType.{Kind}
use Rattle.text.specs.Written.{written}
use Rattle.entries.specs.declared.entry.Entry.{Entry}
use Rattle.entries.specs.declared.header.Header.{Header}
use Rattle.record.specs.declared.refusal.WriteRefusal.{WriteRefusal}
use Rattle.record.specs.declared.refusal.WriteRefusal.TheVariants.{OutOfRange, JobRefused, PageTooLong, BufferTooShort}
use Rattle.entries.specs.HeaderWords.{job_kind}
use Rattle.record.specs.Header.{header_text, header_ok}
use Rattle.record.specs.Lines.{shows, entries_text}

-- the numbers of an entry are in their ranges
abbrev pub in_range : Header → Entry → Bool
in_range h e = nat_le e.processor (h.processors - 1) && (nat_le e.from 65535 && (nat_le e.mark 65535 && (nat_le e.to 65535 && nat_le e.task (h.places - 2))))

-- the job type accepts a job that is to be shown
abbrev pub is_job : Kind → Entry → Bool
is_job kind e = not (shows e) || kind.accepts e.first e.second

unfoldable pub page_text : Kind → Header → List Entry → List ℕ
page_text kind h es = header_text h ++ entries_text kind 0 es

-- a text that a page may have, and that the buffer has room for
abbrev pub fitted : ℕ → List ℕ → Result (List ℕ) WriteRefusal
fitted room t = cond (nat_le (length t) 32768) (cond (nat_le (length t) room) (Ok t) (Err BufferTooShort)) (Err PageTooLong)

unfoldable pub write_jobs_gives : Kind → ℕ → Header → List Entry → Result (List ℕ) WriteRefusal
write_jobs_gives kind room h es =
    cond (header_ok h && list_all (in_range h) es) (cond (list_all (is_job kind) es) (fitted room (page_text kind h es)) (Err JobRefused)) (Err OutOfRange)

-- the page of a header and entries, given room for so many bytes
abbrev pub write_page_gives : ℕ → Header → List Entry → Result (List ℕ) WriteRefusal
write_page_gives room h es = write_jobs_gives (job_kind h.job) room h es

-- what the writer answers
abbrev pub text_size : Result (List ℕ) WriteRefusal → Result ℕ WriteRefusal
text_size (Ok t) = Ok (length t)
text_size (Err f) = Err f

-- what it leaves in the buffer: the page from its start, or all as it was
abbrev pub buffer_after : Result (List ℕ) WriteRefusal → List ℕ → List ℕ
buffer_after (Ok t) out = written out 0 t
buffer_after (Err f) out = out
