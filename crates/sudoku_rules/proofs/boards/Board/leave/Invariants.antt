use Rattle.std.proofs.Common.{◌≡◌, ◌<◌, ◌≤◌, ◌&&◌, not, ℕ, length, get_or, eqb}
use Rattle.sudoku_rules.specs.inside.Planes.{has}
use Rattle.sudoku_rules.proofs.boards.Board.leave.Given as goal

-- the planes below x have lost the cell, the others are as they were
abbrev pub invariant-loop-x : goal.invariant-loop-x
invariant-loop-x g l = record {
  cells : l.self.cells ≡ l.fn.self.cells;
  blank : l.self.blank ≡ l.fn.self.blank;
  long : length l.self.options ≡ length l.fn.self.options;
  done : (y k : ℕ) → y < l.x → has (get_or l.self.options y 0) k ≡ (has (get_or l.fn.self.options y 0) k && not (eqb k l.cell));
  rest : (y : ℕ) → l.x ≤ y → get_or l.self.options y 0 ≡ get_or l.fn.self.options y 0;
}
