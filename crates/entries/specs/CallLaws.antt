-- Each call has a word of its own, of plain bytes.
use Rattle.std.specs.Prelude.{◌≡◌, true, Some, refl}
use Rattle.text.specs.Bytes.{plain_text}
use Rattle.text.specs.Pairs.{Spells, word}
use Rattle.text.specs.Spelled.{Words}
use Rattle.text.specs.SpelledLaws.{spells}
use Rattle.entries.specs.declared.entry.Call.{Call}
use Rattle.entries.specs.declared.entry.Call.TheVariants.{Put, Take, Steal}
use Rattle.entries.specs.Calls.{calls, call_text, call_of}

call_own : (x : Call) → call_of (call_text x) ≡ Some x
call_own Put = refl
call_own Take = refl
call_own Steal = refl

call_whole : (x : Call) → word (call_text x) ≡ call_text x
call_whole Put = refl
call_whole Take = refl
call_whole Steal = refl

call_plain : (x : Call) → plain_text (call_text x) ≡ true
call_plain Put = refl
call_plain Take = refl
call_plain Steal = refl

pub call_words : Words calls call_text
call_words = record { own = call_own; whole = call_whole; plain = call_plain }

pub call_laws : Spells call_of call_text
call_laws = spells call_words
