use Rattle.std.proofs.Common.{length}
use Rattle.example_queens.proofs.boards.+is_safe.Given as goal

abbrev pub decreases-is_safe : goal.decreases-is_safe
decreases-is_safe l = length l.board.now
