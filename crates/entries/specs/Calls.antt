-- The words of the calls.
use Rattle.std.specs.Prelude.{ℕ, List, [], ◌∷◌, codes, Option}
use Rattle.text.specs.Spelled.{spelled}
use Rattle.entries.specs.declared.entry.Call.{Call}
use Rattle.entries.specs.declared.entry.Call.TheVariants.{Put, Take, Steal}

abbrev pub call_text : Call → List ℕ
call_text Put = codes "put"
call_text Take = codes "take"
call_text Steal = codes "steal"

abbrev pub calls : List Call
calls = Put ∷ Take ∷ Steal ∷ []

abbrev pub call_of : List ℕ → Option Call
call_of = spelled calls call_text
