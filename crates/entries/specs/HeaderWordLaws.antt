-- Each register and job type has a word of its own, of plain bytes.
use Rattle.std.specs.Prelude.{◌≡◌, true, Some, refl}
use Rattle.text.specs.Bytes.{plain_text}
use Rattle.text.specs.Pairs.{Spells, word}
use Rattle.text.specs.Spelled.{Words}
use Rattle.text.specs.SpelledLaws.{spells}
use Rattle.entries.specs.declared.header.JobKind.{JobKind}
use Rattle.entries.specs.declared.header.JobKind.TheVariants.{Check, Span}
use Rattle.entries.specs.declared.header.Register.{Register}
use Rattle.entries.specs.declared.header.Register.TheVariants.{Word, Tree, Range}
use Rattle.entries.specs.HeaderWords.{registers, register_text, register_of, job_kinds, job_text, job_of}

register_own : (x : Register) → register_of (register_text x) ≡ Some x
register_own Word = refl
register_own Tree = refl
register_own Range = refl

register_whole : (x : Register) → word (register_text x) ≡ register_text x
register_whole Word = refl
register_whole Tree = refl
register_whole Range = refl

register_plain : (x : Register) → plain_text (register_text x) ≡ true
register_plain Word = refl
register_plain Tree = refl
register_plain Range = refl

pub register_words : Words registers register_text
register_words = record { own = register_own; whole = register_whole; plain = register_plain }

pub register_laws : Spells register_of register_text
register_laws = spells register_words

job_own : (x : JobKind) → job_of (job_text x) ≡ Some x
job_own Check = refl
job_own Span = refl

job_whole : (x : JobKind) → word (job_text x) ≡ job_text x
job_whole Check = refl
job_whole Span = refl

job_plain : (x : JobKind) → plain_text (job_text x) ≡ true
job_plain Check = refl
job_plain Span = refl

pub job_words : Words job_kinds job_text
job_words = record { own = job_own; whole = job_whole; plain = job_plain }

pub job_laws : Spells job_of job_text
job_laws = spells job_words
