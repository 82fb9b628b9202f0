-- What the reader answered and left in the list comes to the report of the text.
use Rattle.std.proofs.Common.{◌≡◌, ℕ, ◌≤◌, List, length, take, Ok, Err, Result, refl, ap, ◌∙◌}
use Rattle.std.specs.Result.{MatchResult, IsOkAnd, IfOk}
use Rattle.text.specs.WrittenLaws.{take_front}
use Rattle.text.specs.declared.fault.Fault.{Fault}
use Rattle.text.specs.declared.fault.PlacedFault.{PlacedFault}
use Rattle.entries.specs.declared.entry.Entry.{Entry}
use Rattle.entries.specs.declared.header.Header.{Header}
use Rattle.entries.specs.declared.page.Page.{Page}
use Rattle.record.specs.Read.{read_page_gives, read_answer, list_of_page}
use Rattle.record.specs.Trip.{TakesWhatIsWritten}
use Rattle.lanes.specs.Report.{IsPage, answer_text, page_report, report_text}
use Rattle.lanes.specs.Timeline.{timeline_text}

-- no answer counts more entries than the list has room for
pub few : (text : List ℕ) (room : ℕ) (read : Result (Header × ℕ) PlacedFault) (after : List Entry) → TakesWhatIsWritten text room read after → IfOk read (λ p. p.1 ≤ room)
few text room (Ok p) after trip = (trip.makes_again p.0 p.1 refl).0
few text room (Err f) after trip = tt

read_report : (text : List ℕ) (list : List Entry) (width : ℕ) (r : Result (Header × List Entry) Fault) (answer : Result Page PlacedFault) → MatchResult (read_answer text r) (λ p. IsOkAnd answer (IsPage p.0 (take p.1 (list_of_page r list)))) (λ f. answer ≡ Err f) → IfOk (read_answer text r) (λ p. p.1 ≤ length list) → answer_text answer width ≡ page_report text r width
read_report text list width (Ok p) (Ok page) is fits =
    let all = is.1 ∙ take_front list p.1 fits in
    λ i. timeline_text (is.0 i) (all i) width
read_report text list width (Ok p) (Err f) is fits = elim is [ ]
read_report text list width (Err f) answer is fits = ap (λ a. answer_text a width) is

pub answer_report : (text : List ℕ) (list after : List Entry) (width : ℕ) (read : Result (Header × ℕ) PlacedFault) (answer : Result Page PlacedFault) → read ≡ read_answer text (read_page_gives (length list) text) → after ≡ list_of_page (read_page_gives (length list) text) list → TakesWhatIsWritten text (length list) read after → MatchResult read (λ p. IsOkAnd answer (IsPage p.0 (take p.1 after))) (λ f. answer ≡ Err f) → answer_text answer width ≡ report_text (length list) text width
unfolding report_text
answer_report text list after width read answer value filled trip is =
    read_report text list width (read_page_gives (length list) text) answer (rw (value, filled) at is) (rw value at (few text (length list) read after trip))
