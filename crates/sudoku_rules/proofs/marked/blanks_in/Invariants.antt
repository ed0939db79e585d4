use Rattle.sudoku_rules.specs.inside.Marked.{IsBlankRow}
use Rattle.sudoku_rules.proofs.marked.blanks_in.Given as goal

abbrev pub invariant-loop-column : goal.invariant-loop-column
invariant-loop-column g l = IsBlankRow g.row.M l.cells l.row l.column l.blanks
