use Rattle.trees.proofs.ByBits.{writes_by_bits_lem}
use Rattle.trees.proofs.promises.writes_by_bits.Goals as goal

pub returns : goal.returns
returns c = writes_by_bits_lem
