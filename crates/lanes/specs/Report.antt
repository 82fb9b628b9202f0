-- A record page as somebody wants to see it: its timeline, or the one line of its fault.
use Rattle.std.specs.Prelude.{◌≡◌, ℕ, ◌-◌, ◌^◌, min, Bool, cond, List, length, Ok, Err, Result, nat_le}
use Rattle.text.specs.FaultLine.{fault_text}
use Rattle.text.specs.Whole.{placed}
use Rattle.text.specs.Written.{written}
use Rattle.text.specs.declared.fault.Fault.{Fault}
use Rattle.text.specs.declared.fault.PlacedFault.{PlacedFault}
use Rattle.entries.specs.declared.entry.Entry.{Entry}
use Rattle.record.specs.Read.{read_page_gives}
use Rattle.entries.specs.declared.header.Header.{Header}
use Rattle.entries.specs.declared.page.Page.{Page}
use Rattle.lanes.specs.declared.report.BufferTooShort.{BufferTooShort}
use Rattle.lanes.specs.Timeline.{timeline_text}

-- the page has this header and these entries
abbrev pub IsPage : Header → List Entry → Page → Type 0
IsPage h es page = (page.header ≡ h) × (page.entries.now ≡ es)

-- what a page or its fault comes to
abbrev pub answer_text : Result Page PlacedFault → ℕ → List ℕ
answer_text (Ok p) width = timeline_text p.header p.entries.now width
answer_text (Err f) width = fault_text f

abbrev pub page_report : List ℕ → Result (Header × List Entry) Fault → ℕ → List ℕ
page_report text (Ok p) width = timeline_text p.0 p.1 width
page_report text (Err f) width = fault_text (placed text f)

-- the report of a text, read into a list with room for so many entries
unfoldable pub report_text : ℕ → List ℕ → ℕ → List ℕ
report_text room text width = page_report text (read_page_gives room text) width

-- a buffer with this much room takes the text
abbrev pub fits : List ℕ → ℕ → Bool
fits t room = nat_le (length t) (min room (2 ^ 64 - 2))

-- how many bytes the report has; as an error, how many the buffer has to have
abbrev pub report_size : List ℕ → ℕ → Result ℕ BufferTooShort
report_size t room = cond (fits t room) (Ok (length t)) (Err (record { needed = min (length t) (2 ^ 64 - 1) }))

-- what it leaves in the buffer: the report from its start, or all as it was
abbrev pub report_buffer : List ℕ → List ℕ → List ℕ
report_buffer t out = cond (fits t (length out)) (written out 0 t) out
