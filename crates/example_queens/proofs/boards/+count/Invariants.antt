use Rattle.std.proofs.Common.{◌≡◌, ◌-◌, length}
use Rattle.example_queens.proofs.Counting.{so_far}
use Rattle.example_queens.proofs.boards.+count.Given as goal

abbrev pub decreases-count : goal.decreases-count
decreases-count l = l.side - length l.board.now

abbrev pub invariant-loop-column : goal.invariant-loop-column
invariant-loop-column l = l.found ≡ so_far l.side l.board l.column
