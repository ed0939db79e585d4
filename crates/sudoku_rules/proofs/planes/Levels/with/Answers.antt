use Rattle.sudoku_rules.proofs.PlaneBits.{levels_with}
use Rattle.sudoku_rules.proofs.planes.Levels.with.Goals as goal

pub returns : goal.returns
returns c = λ planes n at are. levels_with planes n c.args.plane c.args.self at are
