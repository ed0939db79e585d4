use Rattle.sudoku_rules.proofs.Children.{IsTried}
use Rattle.sudoku_rules.proofs.search.+search.Given as goal

abbrev pub decreases-search : goal.decreases-search
decreases-search g l = l.budget

abbrev pub decreases-loop-left : goal.decreases-loop-left
decreases-loop-left g l = l.left

abbrev pub invariant-loop-left : goal.invariant-loop-left
invariant-loop-left g l = IsTried g.row.M l.grain l.budget l.choice.count l.share l.board.cells l.choice.cell l.fn.found l.left l.found
