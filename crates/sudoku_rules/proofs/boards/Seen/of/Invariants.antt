use Rattle.sudoku_rules.specs.inside.Boards.{AreSeen}
use Rattle.sudoku_rules.proofs.boards.Seen.of.Given as goal

abbrev pub invariant-loop-cell : goal.invariant-loop-cell
invariant-loop-cell g l = AreSeen g.row.M l.cells l.cell l.seen
