-- A check meets the laws of a job type.
use Rattle.std.specs.Prelude.{◌≡◌, ℕ, ◌^◌, ◌<◌, ◌&&◌, Some, nat_le, refl}
use Rattle.std.proofs.Common.{ap, arith}
use Rattle.std.proofs.lemmas.Bool.{and_parts, leb-true}
use Rattle.jobs.specs.JobType.{Laws}
use Rattle.jobs.specs.Check.{check_names, check_pair, check_of}
use Rattle.jobs.specs.declared.check.Check.{Check}
use Rattle.jobs.specs.Made.{made_is, made_true}

check_small : (a b : ℕ) (j : Check) → check_of a b ≡ Some j → (a < 2 ^ 32) × (b < 2 ^ 32)
check_small a b j e =
    let p = and_parts (nat_le 1 a && nat_le a 1024 && nat_le 1 b) (nat_le b 999) (made_true _ _ _ e) in
    let q = and_parts (nat_le 1 a && nat_le a 1024) (nat_le 1 b) p.0 in
    let r = and_parts (nat_le 1 a) (nat_le a 1024) q.0 in
    (omega (arith, leb-true a 1024 r.1), omega (arith, leb-true b 999 p.1))

pub check_laws : Laws check_names check_pair check_of
check_laws = record {
  name_is_name = refl;
  key1_is_name = refl;
  key2_is_name = refl;
  small = check_small;
  numbers_back = λ a b j e. ap check_pair (made_is _ _ _ e);
  job_back = λ j k e. made_is _ _ _ e;
}
