use Rattle.core_inline.proofs.Lefts.{nothing_left}
use Rattle.core_inline.proofs.laws.left_laws.Goals as goal

pub returns : goal.returns
returns c = nothing_left
