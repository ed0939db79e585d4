use Rattle.sudoku_rules.proofs.BoardSteps.{seen_none}
use Rattle.sudoku_rules.proofs.boards.Seen.of.Goals as goal

pub loop-cell-init : goal.loop-cell-init
loop-cell-init g c = seen_none g.row.M c.args.cells.now c.requires.sized.side
