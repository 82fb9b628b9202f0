-- What takes things one after another.
use Rattle.std.specs.Prelude.{List, [], ◌++◌}

pub record Laws {S T : Type 0} (took : S → List T → S → Type 0) : Type 0 where
  -- nothing came
  pub none : (s : S) → took s [] s
  -- one thing came after another
  pub join : (s t u : S) (xs ys : List T) → took s xs t → took t ys u → took s (xs ++ ys) u
