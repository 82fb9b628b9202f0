-- The length of a record's lines.
use Rattle.std.proofs.Common.{ℕ, ◌+◌, ◌≤◌, List, [], ◌∷◌, length, arith, length-append}
use Rattle.jobs.specs.JobType.{Kind}
use Rattle.entries.specs.declared.entry.Entry.{Entry}
use Rattle.text.specs.Written.{number_pair}
use Rattle.record.specs.Lines.{entry_text, entries_text}
use Rattle.record.specs.Write.{}

pub entry_some : (kind : Kind) (op : ℕ) (e : Entry) → 1 ≤ length (entry_text kind op e)
unfolding entry_text number_pair
entry_some kind op e = omega arith

pub entries_some : (kind : Kind) (op : ℕ) (es : List Entry) → length es ≤ length (entries_text kind op es)
entries_some kind op [] = omega arith
entries_some kind op (e ∷ es) =
    omega (arith, length-append (entry_text kind (op + 1) e) (entries_text kind (op + 1) es), entry_some kind (op + 1) e, entries_some kind (op + 1) es)
