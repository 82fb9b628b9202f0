-- A span meets the laws of a job type.
use Rattle.std.specs.Prelude.{◌≡◌, ℕ, ◌^◌, ◌<◌, Some, nat_le, refl}
use Rattle.std.proofs.Common.{ap, arith}
use Rattle.std.proofs.lemmas.Bool.{and_parts, leb-true}
use Rattle.jobs.specs.JobType.{Laws}
use Rattle.jobs.specs.Span.{span_names, span_pair, span_of}
use Rattle.jobs.specs.declared.span.Span.{Span}
use Rattle.jobs.specs.Made.{made_is, made_true}

span_small : (a b : ℕ) (j : Span) → span_of a b ≡ Some j → (a < 2 ^ 32) × (b < 2 ^ 32)
span_small a b j e =
    let p = and_parts (nat_le a b) (nat_le b 4000000) (made_true _ _ _ e) in
    (omega (arith, leb-true a b p.0, leb-true b 4000000 p.1), omega (arith, leb-true b 4000000 p.1))

pub span_laws : Laws span_names span_pair span_of
span_laws = record {
  name_is_name = refl;
  key1_is_name = refl;
  key2_is_name = refl;
  small = span_small;
  numbers_back = λ a b j e. ap span_pair (made_is _ _ _ e);
  job_back = λ j k e. made_is _ _ _ e;
}
