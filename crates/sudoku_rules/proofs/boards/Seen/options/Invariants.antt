use Rattle.std.proofs.Common.{◌≡◌, ◌<◌, ◌&&◌, not, ℕ, get_or, length}
use Rattle.sudoku_rules.specs.inside.Planes.{has}
use Rattle.sudoku_rules.proofs.boards.Seen.options.Given as goal

abbrev pub invariant-loop-x : goal.invariant-loop-x
invariant-loop-x g l = record {
  long : length l.options ≡ g.row.SIDE;
  done : (x k : ℕ) → x < l.x → has (get_or l.options x 0) k ≡ (has l.self.blank k && not (has (get_or l.self.planes x 0) k));
}
