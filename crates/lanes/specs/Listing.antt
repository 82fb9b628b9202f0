-- The operations of each processor, a line each, numbered as they stand in the list.
use Rattle.std.specs.Prelude.{ℕ, ◌+◌, cond, not, ◌&&◌, List, [], ◌∷◌, ◌++◌, codes, decimal, ◌==◌}
use Rattle.std.specs.List.{range_with_len, flat_map}
use Rattle.jobs.specs.JobType.{Kind}
use Rattle.text.specs.Written.{word_pair, number_pair}
use Rattle.entries.specs.Calls.{call_text}
use Rattle.entries.specs.declared.entry.Entry.{Entry}
use Rattle.record.specs.Lines.{is_put, job_pairs}

-- an operation that is not over is unfinished, and one that looked for a task and got none is empty
abbrev pub ending : Entry → List ℕ
ending e = cond (e.to == 0) (codes " unfinished\n") (cond (not (is_put e.call) && e.task == 0) (codes " empty\n") (codes "\n"))

-- the line of the operation that has this number
unfoldable pub operation_text : Kind → ℕ → Entry → List ℕ
operation_text kind op e =
    codes "  "
    ++ (number_pair (codes "op") op 32
    ++ (word_pair (codes "call") (call_text e.call) 32
    ++ (number_pair (codes "task") e.task 32
    ++ (job_pairs kind e 32
    ++ (number_pair (codes "from") e.from 32
    ++ (number_pair (codes "mark") e.mark 32
    ++ (codes "to=" ++ (decimal e.to ++ ending e))))))))

-- an operation, where it is the processor's own
unfoldable pub own_text : Kind → ℕ → ℕ → Entry → List ℕ
own_text kind p op e = cond (e.processor == p) (operation_text kind op e) []

-- the processor's operations among the entries, numbered after op
abbrev pub operations_of : Kind → ℕ → ℕ → List Entry → List ℕ
operations_of kind p op [] = []
operations_of kind p op (e ∷ es) = own_text kind p (op + 1) e ++ operations_of kind p (op + 1) es

unfoldable pub processor_text : Kind → List Entry → ℕ → List ℕ
processor_text kind es p = codes "processor " ++ (decimal p ++ (10 ∷ operations_of kind p 0 es))

-- processor by processor
unfoldable pub listing : Kind → List Entry → ℕ → List ℕ
listing kind es processors = flat_map (processor_text kind es) (range_with_len 0 processors)
