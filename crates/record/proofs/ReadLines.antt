-- Laws of `read_entries`.
use Rattle.std.proofs.Common.{◌≡◌, ℕ, zero, suc, ◌+◌, ◌-◌, ◌<◌, ◌≤◌, List, [], ◌∷◌, ◌++◌, length, Ok, Err, Result, sym, refl, ap, ◌∙◌, append_assoc, arith}
use Rattle.jobs.specs.JobType.{Kind}
use Rattle.text.specs.Pairs.{Step, fault}
use Rattle.text.specs.declared.fault.Fault.{Fault}
use Rattle.text.specs.declared.fault.Refusal.TheVariants.{ListFull}
use Rattle.text.proofs.Answered.{ok_inj}
use Rattle.entries.specs.declared.entry.Entry.{Entry}
use Rattle.entries.specs.declared.header.Header.{Header}
use Rattle.record.specs.Read.{read_entry_gives, read_entries, after_line, with_first, size_of}

-- entries that were read before the others
abbrev pub with_all : List Entry → Result (List Entry) Fault → Result (List Entry) Fault
with_all front (Ok es) = Ok (front ++ es)
with_all front (Err f) = Err f

pub with_more : (front : List Entry) (e : Entry) (r : Result (List Entry) Fault) → with_all front (with_first e r) ≡ with_all (front ++ (e ∷ [])) r
with_more front e (Ok es) = ap Ok (sym (append_assoc front (e ∷ []) es))
with_more front e (Err f) = refl

module _ (kind : Kind) (hd : Header) where
  pub lines_none : (k op : ℕ) (s : List ℕ) → length s ≡ 0 → read_entries kind hd k op s ≡ Ok []
  lines_none zero op [] h = refl
  lines_none (suc k) op [] h = refl
  lines_none zero op (c ∷ cs) h = absurd (omega arith)
  lines_none (suc k) op (c ∷ cs) h = absurd (omega arith)

  lines_step : (k op : ℕ) (s : List ℕ) → 0 < length s → read_entries kind hd (suc k) op s ≡ after_line (read_entry_gives kind hd (op + 1) s) (λ e t. with_first e (read_entries kind hd k (op + 1) t))
  lines_step k op [] h = absurd (omega arith)
  lines_step k op (c ∷ cs) h = refl

  pub lines_more : (k op : ℕ) (s t : List ℕ) (x : Entry) → 0 < length s → read_entry_gives kind hd (op + 1) s ≡ Ok (x, t) → read_entries kind hd (suc k) op s ≡ with_first x (read_entries kind hd k (op + 1) t)
  lines_more k op s t x h e = lines_step k op s h ∙ ap (λ r. after_line r (λ e t. with_first e (read_entries kind hd k (op + 1) t))) e

  pub all_again : (room n : ℕ) (whole : Result (List Entry) Fault) (front : List Entry) (s t : List ℕ) (x : Entry) → n < room → 0 < length s → whole ≡ with_all front (read_entries kind hd (room - n) n s) → read_entry_gives kind hd (n + 1) s ≡ Ok (x, t) → whole ≡ with_all (front ++ (x ∷ [])) (read_entries kind hd (room - (n + 1)) (n + 1) t)
  all_again room n whole front s t x less some is e =
      let down : room - n ≡ suc (room - (n + 1)) = omega arith in
      is ∙ ap (λ k. with_all front (read_entries kind hd k n s)) down ∙ ap (with_all front) (lines_more (room - (n + 1)) n s t x some e) ∙ with_more front x _

pub ok_from_size : (r : Result (List Entry) Fault) (n : ℕ) → Ok n ≡ size_of r → (es : List Entry) × (r ≡ Ok es)
ok_from_size (Ok es) n e = (es, refl)
ok_from_size (Err f) n e = cc

-- for a proof that goes on under them
pub with_first_on : {P : Type 0} (e : Entry) (r : Result (List Entry) Fault) (es : List Entry) → with_first e r ≡ Ok es → ((fs : List Entry) → r ≡ Ok fs → es ≡ e ∷ fs → P) → P
with_first_on e (Ok fs) es h on = on fs refl (sym (ok_inj h))
with_first_on e (Err f) es h on = cc

pub after_line_on : {P : Type 0} (r : Step Entry) (k : Entry → List ℕ → Result (List Entry) Fault) (es : List Entry) → after_line r k ≡ Ok es → ((x : Entry) (t : List ℕ) → r ≡ Ok (x, t) → k x t ≡ Ok es → P) → P
after_line_on (Ok p) k es h on = on p.0 p.1 refl h
after_line_on (Err f) k es h on = cc

-- what is done after a line may differ where it comes to the same
pub after_line_same : (r : Step Entry) (j k : Entry → List ℕ → Result (List Entry) Fault) → ((x : Entry) (t : List ℕ) → r ≡ Ok (x, t) → j x t ≡ k x t) → after_line r j ≡ after_line r k
after_line_same (Ok p) j k same = same p.0 p.1 refl
after_line_same (Err f) j k same = refl

pub lines_within : (kind : Kind) (hd : Header) (k op : ℕ) (s : List ℕ) (es : List Entry) → read_entries kind hd k op s ≡ Ok es → length es ≤ k
lines_within kind hd zero op [] es h = omega (arith, ap length (ok_inj h))
lines_within kind hd zero op (c ∷ cs) es h = after_line_on (read_entry_gives kind hd (op + 1) (c ∷ cs)) (λ e t. Err (fault ListFull (c ∷ cs))) es h (λ x t _ e. cc)
lines_within kind hd (suc k) op [] es h = omega (arith, ap length (ok_inj h))
lines_within kind hd (suc k) op (c ∷ cs) es h =
    after_line_on (read_entry_gives kind hd (op + 1) (c ∷ cs)) (λ e t. with_first e (read_entries kind hd k (op + 1) t)) es h (λ x t _ e.
    with_first_on x (read_entries kind hd k (op + 1) t) es e (λ fs f same.
    omega (arith, lines_within kind hd k (op + 1) t fs f, ap length same)))
