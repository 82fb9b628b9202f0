-- The header line: register, places, processors and job.
use Rattle.std.specs.Prelude.{ℕ, Bool, true, ◌&&◌, List, ◌++◌, Ok, codes, nat_le}
use Rattle.text.specs.Figures.{within}
use Rattle.text.specs.Pairs.{Step, then, pair, gap, field, never}
use Rattle.text.specs.Written.{word_pair, number_pair}
use Rattle.entries.specs.HeaderWords.{register_text, register_of, job_text, job_of}
use Rattle.entries.specs.declared.header.Header.{Header}

unfoldable pub header_text : Header → List ℕ
header_text h =
    word_pair (codes "register") (register_text h.register) 32
    ++ (number_pair (codes "places") h.places 32
    ++ (number_pair (codes "processors") h.processors 32
    ++ word_pair (codes "job") (job_text h.job) 10))

-- places are 3 to 257, processors 1 to 16
abbrev pub header_ok : Header → Bool
header_ok h = nat_le 3 h.places && (nat_le h.places 257 && (nat_le 1 h.processors && nat_le h.processors 16))

unfoldable pub read_header : List ℕ → Step Header
read_header s =
    then (field (codes "register") register_of never s) (λ register s1.
    then (field (codes "places") (within 3 257) never s1) (λ places s2.
    then (field (codes "processors") (within 1 16) never s2) (λ processors s3.
    then (pair (codes "job") job_of s3) (λ job s4.
    then (gap true s4) (λ _ s5.
    Ok (record { register = register; places = places; processors = processors; job = job }, s5))))))
