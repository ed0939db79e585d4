use Rattle.sudoku_rules.proofs.PlaneBits.{levels_none}
use Rattle.sudoku_rules.proofs.planes.Levels.of.Goals as goal

pub loop-plane-init : goal.loop-plane-init
loop-plane-init c = levels_none c.args.planes.now
