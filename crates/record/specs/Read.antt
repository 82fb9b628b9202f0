-- What the reader makes of a text: a header and entries, or a fault.
use Rattle.std.specs.Prelude.{ℕ, zero, suc, ◌+◌, ◌-◌, ◌^◌, Bool, true, false, cond, not, List, [], ◌∷◌, length, drop, Ok, Err, codes, Result}
use Rattle.jobs.specs.JobType.{Kind}
use Rattle.text.specs.Figures.{within}
use Rattle.text.specs.Pairs.{Step, fault, then, pair, gap, field, never}
use Rattle.text.specs.Whole.{whole, placed}
use Rattle.text.specs.Written.{written}
use Rattle.text.specs.declared.fault.Fault.{Fault}
use Rattle.text.specs.declared.fault.PlacedFault.{PlacedFault}
use Rattle.text.specs.declared.fault.Refusal.TheVariants.{JobRefused, ListFull}
use Rattle.entries.specs.Calls.{call_of}
use Rattle.entries.specs.declared.entry.Entry.{Entry}
use Rattle.entries.specs.declared.header.Header.{Header}
use Rattle.entries.specs.HeaderWords.{job_kind}
use Rattle.record.specs.Header.{read_header}
use Rattle.record.specs.Lines.{shown}

-- a job that is shown: its two numbers, which its type has to accept
unfoldable pub read_job : Kind → List ℕ → Step (ℕ × ℕ)
read_job kind s =
    then (field kind.names.key1 (within 0 (2 ^ 32 - 1)) never s) (λ a t.
    then (pair kind.names.key2 (within 0 (2 ^ 32 - 1)) t) (λ b u.
    then (gap true u) (λ _ v.
    cond (kind.accepts a b) (Ok ((a, b), v)) (Err (fault JobRefused (drop (length kind.names.key1 + 1) s))))))

abbrev pub read_shown : Kind → Bool → List ℕ → Step (ℕ × ℕ)
read_shown kind true s = read_job kind s
read_shown kind false s = Ok ((0, 0), s)

-- the line of the operation that has this number
unfoldable pub read_entry_gives : Kind → Header → ℕ → List ℕ → Step Entry
read_entry_gives kind h op s =
    then (field (codes "op") (within op op) never s) (λ _ s1.
    then (field (codes "proc") (within 0 (h.processors - 1)) never s1) (λ processor s2.
    then (field (codes "call") call_of never s2) (λ call s3.
    then (field (codes "from") (within 0 65535) never s3) (λ from s4.
    then (field (codes "mark") (within 0 65535) never s4) (λ mark s5.
    then (field (codes "to") (within 0 65535) never s5) (λ to s6.
    then (pair (codes "task") (within 0 (h.places - 2)) s6) (λ task s7.
    then (gap (not (shown call to task)) s7) (λ _ s8.
    then (read_shown kind (shown call to task) s8) (λ job s9.
    Ok (record { processor = processor; call = call; from = from; mark = mark; to = to; task = task; first = job.0; second = job.1 }, s9))))))))))

abbrev pub with_first : Entry → Result (List Entry) Fault → Result (List Entry) Fault
with_first e (Ok es) = Ok (e ∷ es)
with_first e (Err f) = Err f

abbrev pub after_line : Step Entry → (Entry → List ℕ → Result (List Entry) Fault) → Result (List Entry) Fault
after_line (Ok p) k = k p.0 p.1
after_line (Err f) k = Err f

-- the lines to the end of the text, numbered after op, at most room of them; a line too many is read before it is refused, so that a fault of its own comes first
abbrev pub read_entries : Kind → Header → ℕ → ℕ → List ℕ → Result (List Entry) Fault
read_entries kind h zero op [] = Ok []
read_entries kind h zero op (c ∷ cs) = after_line (read_entry_gives kind h (op + 1) (c ∷ cs)) (λ e s. Err (fault ListFull (c ∷ cs)))
read_entries kind h (suc room) op [] = Ok []
read_entries kind h (suc room) op (c ∷ cs) = after_line (read_entry_gives kind h (op + 1) (c ∷ cs)) (λ e s. with_first e (read_entries kind h room (op + 1) s))

-- how many entries were read
abbrev pub size_of : Result (List Entry) Fault → Result ℕ Fault
size_of (Ok es) = Ok (length es)
size_of (Err f) = Err f

-- what is left in a list: the entries from its start, or all as it was
abbrev pub list_after : Result (List Entry) Fault → List Entry → List Entry
list_after (Ok es) list = written list 0 es
list_after (Err f) list = list

abbrev pub with_header : Header → Result (List Entry) Fault → Result (Header × List Entry) Fault
with_header h (Ok es) = Ok (h, es)
with_header h (Err f) = Err f

abbrev pub after_header : Step Header → (Header → List ℕ → Result (Header × List Entry) Fault) → Result (Header × List Entry) Fault
after_header (Ok p) k = k p.0 p.1
after_header (Err f) k = Err f

abbrev pub if_whole : Result (Unit {0}) Fault → Result (Header × List Entry) Fault → Result (Header × List Entry) Fault
if_whole (Ok u) r = r
if_whole (Err f) r = Err f

-- the whole text first, then its header, then its lines, given a list with room for so many
unfoldable pub read_page_gives : ℕ → List ℕ → Result (Header × List Entry) Fault
read_page_gives room s = if_whole (whole 32768 s) (after_header (read_header s) (λ h t. with_header h (read_entries (job_kind h.job) h room 0 t)))

abbrev pub counted_page : Result (Header × List Entry) Fault → Result (Header × ℕ) Fault
counted_page (Ok p) = Ok (p.0, length p.1)
counted_page (Err f) = Err f

-- what the reader answers: the header and the number of entries, or the refusal with its place
abbrev pub read_answer : List ℕ → Result (Header × List Entry) Fault → Result (Header × ℕ) PlacedFault
read_answer s (Ok p) = Ok (p.0, length p.1)
read_answer s (Err f) = Err (placed s f)

-- what it leaves in the list: the entries from its start, or all as it was
abbrev pub list_of_page : Result (Header × List Entry) Fault → List Entry → List Entry
list_of_page (Ok p) list = written list 0 p.1
list_of_page (Err f) list = list
