use Rattle.sudoku_rules.specs.inside.Boards.{IsFilled}
use Rattle.sudoku_rules.proofs.boards.Board.settle.Given as goal

abbrev pub invariant-loop-round : goal.invariant-loop-round
invariant-loop-round g l = IsFilled g.row.M l.fn.self l.fn.budget l.self l.left
