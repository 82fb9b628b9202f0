-- The text of the operations, a line each.
use Rattle.std.specs.Prelude.{ℕ, ◌+◌, Bool, true, false, cond, not, ◌&&◌, ◌||◌, List, [], ◌∷◌, ◌++◌, codes, ◌==◌}
use Rattle.jobs.specs.JobType.{Kind}
use Rattle.text.specs.Written.{word_pair, number_pair}
use Rattle.entries.specs.Calls.{call_text}
use Rattle.entries.specs.declared.entry.Call.{Call}
use Rattle.entries.specs.declared.entry.Call.TheVariants.{Put, Take, Steal}
use Rattle.entries.specs.declared.entry.Entry.{Entry}

abbrev pub is_put : Call → Bool
is_put Put = true
is_put Take = false
is_put Steal = false

-- job pairs stand on puts and on finished operations with a task
abbrev pub shown : Call → ℕ → ℕ → Bool
shown call to task = is_put call || (not (to == 0) && not (task == 0))

abbrev pub shows : Entry → Bool
shows e = shown e.call e.to e.task

-- what ends the pair of the task
abbrev pub task_end : Entry → ℕ
task_end e = cond (shows e) 32 10

-- the numbers of the job, if it is shown, and the byte that ends them
unfoldable pub job_pairs : Kind → Entry → ℕ → List ℕ
job_pairs kind e end = cond (shows e) (number_pair kind.names.key1 e.first 32 ++ number_pair kind.names.key2 e.second end) []

-- the line of the operation that has this number
unfoldable pub entry_text : Kind → ℕ → Entry → List ℕ
entry_text kind op e =
    number_pair (codes "op") op 32
    ++ (number_pair (codes "proc") e.processor 32
    ++ (word_pair (codes "call") (call_text e.call) 32
    ++ (number_pair (codes "from") e.from 32
    ++ (number_pair (codes "mark") e.mark 32
    ++ (number_pair (codes "to") e.to 32
    ++ (number_pair (codes "task") e.task (task_end e)
    ++ job_pairs kind e 10))))))

-- the lines of the entries, numbered after op
abbrev pub entries_text : Kind → ℕ → List Entry → List ℕ
entries_text kind op [] = []
entries_text kind op (e ∷ es) = entry_text kind (op + 1) e ++ entries_text kind (op + 1) es

-- an entry as its line shows it: the numbers of a job that is not shown are 0
abbrev pub as_shown : Entry → Entry
as_shown e = record { processor = e.processor; call = e.call; from = e.from; mark = e.mark; to = e.to; task = e.task; first = cond (shows e) e.first 0; second = cond (shows e) e.second 0 }
