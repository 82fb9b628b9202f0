-- The reader takes exactly the texts that the writer makes.
use Rattle.std.specs.Prelude.{◌≡◌, ℕ, ◌≤◌, List, map, length, take, Ok, Result}
use Rattle.text.specs.declared.fault.PlacedFault.{PlacedFault}
use Rattle.entries.specs.declared.entry.Entry.{Entry}
use Rattle.record.specs.Lines.{as_shown}
use Rattle.record.specs.Read.{read_page_gives}
use Rattle.record.specs.Write.{write_page_gives}
use Rattle.entries.specs.declared.header.Header.{Header}
use Rattle.record.specs.declared.refusal.WriteRefusal.{WriteRefusal}

-- the writer, given room for the text, makes it of this header and these entries
abbrev pub Makes : List ℕ → Header → List Entry → Type 0
Makes text h es = write_page_gives (length text) h es ≡ Ok text

-- a reader, given a list with room for so many entries, gave this answer to a text and left the list so
pub record TakesWhatIsWritten (text : List ℕ) (room : ℕ) (answer : Result (Header × ℕ) PlacedFault) (after : List Entry) : Type 0 where
  -- it accepts each text that the writer makes of entries that the list has room for, as it shows them
  pub accepts : (h : Header) (es : List Entry) → Makes text h es → length es ≤ room → (answer ≡ Ok (h, length es)) × (take (length es) after ≡ map as_shown es)
  -- from the record that it returns, the writer makes the text again
  pub makes_again : (h : Header) (n : ℕ) → answer ≡ Ok (h, n) → (n ≤ room) × Makes text h (take n after)

-- a writer gave this answer to a header and entries, and left the buffer so
pub record MakesWhatIsRead (h : Header) (es : List Entry) (answer : Result ℕ WriteRefusal) (after : List ℕ) : Type 0 where
  -- a reader whose list has room for the entries reads what was written as it is shown
  pub reads : (n room : ℕ) → answer ≡ Ok n → length es ≤ room → read_page_gives room (take n after) ≡ Ok (h, map as_shown es)
