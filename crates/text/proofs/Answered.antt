-- What an equation of options or results says of what they hold.
use Rattle.std.proofs.Common.{◌≡◌, Bool, true, false, cond, Some, None, Ok, Err, Option, Result, refl}

pub some_inj : {X : Type 0} {x y : X} → ◌≡◌ {A = Option X} (Some x) (Some y) → x ≡ y
some_inj e = cc

pub cond_some : {A : Type 0} (b : Bool) (o : Option A) (y : A) → cond b o None ≡ Some y → (b ≡ true) × (o ≡ Some y)
cond_some true o y e = (refl, e)
cond_some false o y e = cc

pub ok_inj : {X E : Type 0} {x y : X} → ◌≡◌ {A = Result X E} (Ok x) (Ok y) → x ≡ y
ok_inj e = cc

pub cond_ok : {X E : Type 0} (b : Bool) (r : Result X E) (f : E) (y : X) → cond b r (Err f) ≡ Ok y → (b ≡ true) × (r ≡ Ok y)
cond_ok true r f y e = (refl, e)
cond_ok false r f y e = cc
