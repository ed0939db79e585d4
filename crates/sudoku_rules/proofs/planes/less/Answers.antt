use Rattle.std.proofs.Common.{arith}
use Rattle.sudoku_rules.proofs.PlaneBits.{has_less}
use Rattle.sudoku_rules.proofs.planes.less.Goals as goal

pub returns : goal.returns
returns c = λ k. has_less c.args.plane c.args.other k (omega arith) (omega arith)
