use Rattle.std.proofs.Common.{◌≡◌, ◌≤◌, ℕ, length, true}
use Rattle.sudoku_rules.specs.inside.Planes.{has, many}
use Rattle.sudoku_rules.proofs.boards.Board.with_fewest_of_many.Given as goal

abbrev pub invariant-loop-n : goal.invariant-loop-n
invariant-loop-n g l = (k : ℕ) → has l.self.blank k ≡ true → l.n ≤ many l.self.options (length l.self.options) k
