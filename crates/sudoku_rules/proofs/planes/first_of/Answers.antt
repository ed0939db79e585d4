use Rattle.std.proofs.Common.{arith}
use Rattle.sudoku_rules.proofs.PlaneBits.{first_has}
use Rattle.sudoku_rules.proofs.planes.first_of.Goals as goal

pub returns-clause-few : goal.returns-clause-few
returns-clause-few c = (first_has c.args.plane c.requires (omega arith)).0

pub returns-clause-there : goal.returns-clause-there
returns-clause-there c = (first_has c.args.plane c.requires (omega arith)).1

pub returns-clause-first : goal.returns-clause-first
returns-clause-first c = (first_has c.args.plane c.requires (omega arith)).2
