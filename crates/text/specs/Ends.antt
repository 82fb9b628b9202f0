-- The two sinks: one counts, one fills a buffer.
use Rattle.std.specs.Prelude.{◌≡◌, ◌+◌, ◌-◌, ◌^◌, ◌<◌, ◌≤◌, min, List, ◌++◌, length, refl}
use Rattle.std.proofs.Common.{sym, ap, ◌∙◌, arith, length-append}
use Rattle.text.specs.Written.{written}
use Rattle.text.specs.WrittenLaws.{written_none, written_more}
use Rattle.text.specs.Sink.{Laws}
use Rattle.text.specs.declared.sink.Counter.{Counter}
use Rattle.text.specs.declared.sink.Buffer.{Buffer}

-- it counts, and stays at the largest number
abbrev pub Counted : {T : Type 0} → Counter → List T → Counter → Type 0
Counted s bs t = s.n < 2 ^ 64 → (t.n < 2 ^ 64) × (t.n ≡ min (s.n + length bs) (2 ^ 64 - 1))

-- where the bytes fit, they stand from the old place on, and the place is behind them
pub record Filled {T : Type 0} (s : Buffer T) (bs : List T) (t : Buffer T) : Type 0 where
  pub same : t.out.ghost_name ≡ s.out.ghost_name
  pub long : length t.out.now ≡ length s.out.now
  pub place : s.at + length bs ≤ length s.out.now → t.at ≡ s.at + length bs
  pub bytes : s.at + length bs ≤ length s.out.now → t.out.now ≡ written s.out.now s.at bs

pub counted_laws : {T : Type 0} → Laws (Counted {T = T})
counted_laws = record {
  none = λ s h. (h, omega arith);
  join = λ s t u xs ys a b h. let p = a h in let q = b p.0 in (q.0, omega (arith, length-append xs ys));
}

pub filled_laws : {T : Type 0} → Laws (Filled {T = T})
filled_laws = record {
  none = λ s. record { same = refl; long = refl; place = λ h. omega arith; bytes = λ h. sym (written_none s.out.now s.at) };
  join = λ s t u xs ys a b.
      let long = length-append xs ys in
      let first : s.at + length (xs ++ ys) ≤ length s.out.now → s.at + length xs ≤ length s.out.now = λ h. omega arith in
      let second : s.at + length (xs ++ ys) ≤ length s.out.now → t.at + length ys ≤ length t.out.now = λ h. omega (arith, a.place (first h), a.long) in
      record {
        same = b.same ∙ a.same;
        long = b.long ∙ a.long;
        place = λ h. omega (arith, a.place (first h), b.place (second h));
        bytes = λ h.
            b.bytes (second h)
            ∙ ap (λ n. written t.out.now n ys) (a.place (first h))
            ∙ ap (λ l. written l (s.at + length xs) ys) (a.bytes (first h))
            ∙ written_more s.out.now s.at xs ys (omega arith);
      };
}
