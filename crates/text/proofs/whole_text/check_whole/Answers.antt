use Rattle.std.proofs.Common.{rules}
use Rattle.text.specs.Whole.{whole}
use Rattle.text.proofs.ReaderLaws.{passes_whole}
use Rattle.text.proofs.whole_text.check_whole.Goals as goal

pub returns-then-not-is_empty : goal.returns-then-not-is_empty
unfolding whole
returns-then-not-is_empty c = passes_whole _ _ _ (search rules)

pub returns : goal.returns
unfolding whole
returns c = passes_whole _ _ _ (search rules)
