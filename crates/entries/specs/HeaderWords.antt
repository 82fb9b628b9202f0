-- The words of a header: registers and job types, each a closed list.
use Rattle.std.specs.Prelude.{ℕ, List, [], ◌∷◌, codes, Option}
use Rattle.text.specs.Spelled.{spelled}
use Rattle.jobs.specs.JobType.{Kind, kind}
use Rattle.jobs.specs.Check.{check_names, check_of}
use Rattle.jobs.specs.Span.{span_names, span_of}
use Rattle.entries.specs.declared.header.JobKind.{JobKind}
use Rattle.entries.specs.declared.header.JobKind.TheVariants.{Check, Span}
use Rattle.entries.specs.declared.header.Register.{Register}
use Rattle.entries.specs.declared.header.Register.TheVariants.{Word, Tree, Range}

abbrev pub register_text : Register → List ℕ
register_text Word = codes "word"
register_text Tree = codes "tree"
register_text Range = codes "range"

abbrev pub registers : List Register
registers = Word ∷ Tree ∷ Range ∷ []

abbrev pub register_of : List ℕ → Option Register
register_of = spelled registers register_text

-- the job type that a word of the header stands for, and what pages know of it
abbrev pub job_kind : JobKind → Kind
job_kind Check = kind check_names check_of
job_kind Span = kind span_names span_of

abbrev pub job_text : JobKind → List ℕ
job_text Check = codes "check"
job_text Span = codes "span"

abbrev pub job_kinds : List JobKind
job_kinds = Check ∷ Span ∷ []

abbrev pub job_of : List ℕ → Option JobKind
job_of = spelled job_kinds job_text
