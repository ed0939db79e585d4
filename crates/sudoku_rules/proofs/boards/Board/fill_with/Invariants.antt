use Rattle.std.proofs.Common.{◌≡◌, ℕ, true, get_or}
use Rattle.sudoku_rules.specs.inside.Planes.{has}
use Rattle.sudoku_rules.specs.inside.Boards.{AreSingle, IsFilled}
use Rattle.sudoku_rules.proofs.boards.Board.fill_with.Given as goal

abbrev pub decreases-loop-cells : goal.decreases-loop-cells
decreases-loop-cells g l = l.cells

-- the cells that are left are in both planes
abbrev pub invariant-loop-cells : goal.invariant-loop-cells
invariant-loop-cells g l = record {
  filled : IsFilled g.row.M l.fn.self l.fn.budget l.self l.left;
  single : AreSingle l.singles l.self.options;
  inside : (k : ℕ) → has l.cells k ≡ true → (has l.singles k ≡ true) × (has (get_or l.self.options l.x 0) k ≡ true);
}
