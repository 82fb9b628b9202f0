-- Laws of `read_page_gives`.
use Rattle.std.proofs.Common.{◌≡◌, ℕ, List, Ok, ap, ◌∙◌}
use Rattle.text.specs.Whole.{whole}
use Rattle.entries.specs.declared.header.Header.{Header}
use Rattle.entries.specs.HeaderWords.{job_kind}
use Rattle.record.specs.Header.{read_header}
use Rattle.record.specs.Read.{read_entries, with_header, after_header, if_whole, read_page_gives}

pub page_is : (room : ℕ) (s : List ℕ) (u : Unit {0}) (h : Header) (t : List ℕ) → whole 32768 s ≡ Ok u → read_header s ≡ Ok (h, t) → read_page_gives room s ≡ with_header h (read_entries (job_kind h.job) h room 0 t)
unfolding read_page_gives
page_is room s u h t a b =
    ap (λ r. if_whole r (after_header (read_header s) (λ h t. with_header h (read_entries (job_kind h.job) h room 0 t)))) a
    ∙ ap (λ r. after_header r (λ h t. with_header h (read_entries (job_kind h.job) h room 0 t))) b
