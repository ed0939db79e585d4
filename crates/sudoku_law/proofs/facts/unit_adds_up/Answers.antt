use Rattle.sudoku_law.proofs.Bound.{handed_within}
use Rattle.sudoku_law.proofs.Handed.{solutions_add, boards_add, over_adds}
use Rattle.sudoku_law.proofs.Nodes.{children_below, solutions_grids}
use Rattle.sudoku_law.proofs.facts.unit_adds_up.Goals as goal

pub returns-clause-nodes : goal.returns-clause-nodes
returns-clause-nodes c = solutions_add

pub returns-clause-boards : goal.returns-clause-boards
returns-clause-boards c = boards_add

pub returns-clause-over : goal.returns-clause-over
returns-clause-over c = over_adds

pub returns-clause-children : goal.returns-clause-children
returns-clause-children c = children_below

pub returns-clause-grids : goal.returns-clause-grids
returns-clause-grids c = solutions_grids

pub returns-clause-bound : goal.returns-clause-bound
returns-clause-bound c = handed_within
