-- A job that is made under a test is the one that was offered, and the test held.
use Rattle.std.specs.Prelude.{◌≡◌, Bool, true, false, cond, Some, None, refl}

pub made_is : {J : Type 0} (b : Bool) (x y : J) → cond b (Some x) None ≡ Some y → y ≡ x
made_is true x y e = cc
made_is false x y e = cc

pub made_true : {J : Type 0} (b : Bool) (x y : J) → cond b (Some x) None ≡ Some y → b ≡ true
made_true true x y e = refl
made_true false x y e = cc
