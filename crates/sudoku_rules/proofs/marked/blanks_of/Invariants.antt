use Rattle.std.proofs.Common.{◌≡◌, ◌<◌, ℕ, length, get_or}
use Rattle.sudoku_law.specs.Grid.{side}
use Rattle.sudoku_rules.specs.inside.Marked.{IsBlankRow}
use Rattle.sudoku_rules.proofs.marked.blanks_of.Given as goal

abbrev pub invariant-loop-row : goal.invariant-loop-row
invariant-loop-row g l = record {
  long : length l.blanks ≡ side g.row.M;
  rows : (row : ℕ) → row < l.row → IsBlankRow g.row.M l.cells row (side g.row.M) (get_or l.blanks row 0);
}
