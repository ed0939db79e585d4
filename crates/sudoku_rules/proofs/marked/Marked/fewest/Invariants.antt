use Rattle.std.proofs.Common.{◌*◌}
use Rattle.sudoku_law.specs.Grid.{side}
use Rattle.sudoku_rules.specs.inside.Masks.{IsBest}
use Rattle.sudoku_rules.proofs.marked.Marked.fewest.Given as goal

abbrev pub invariant-loop-row : goal.invariant-loop-row
invariant-loop-row g l = IsBest g.row.M l.self.cells (l.row * side g.row.M) l.best
