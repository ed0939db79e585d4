use Rattle.std.proofs.Common.{◌≡◌, ◌+◌, sum_by}
use Rattle.example_queens.specs.Boards.{placements}
use Rattle.example_queens.proofs.Counting.{so_far}
use Rattle.example_queens.proofs.queens.QueensWork.work.Given as goal

abbrev pub invariant-loop-column : goal.invariant-loop-column
invariant-loop-column l =
    sum_by (placements l.self.side) l.out ≡ so_far l.self.side l.board l.column + sum_by (placements l.self.side) l.fn.out
