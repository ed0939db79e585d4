use Rattle.sudoku_law.specs.Tree.{tree, solutions}
use Rattle.sudoku_law.proofs.Complete.{full_same}
use Rattle.sudoku_law.proofs.Distinct.{tree_distinct}
use Rattle.sudoku_law.proofs.Elements.{pairs_from_distinct}
use Rattle.sudoku_law.proofs.Sound.{tree_sound, full_is}
use Rattle.sudoku_law.proofs.completeness.solution_nodes_are_solutions.Goals as goal

pub returns-clause-law : goal.returns-clause-law
returns-clause-law c = tree_sound

pub returns-clause-once : goal.returns-clause-once
returns-clause-once c = λ m b g grid. pairs_from_distinct (solutions (tree m b g)) (tree_distinct m b g grid)

pub returns-clause-full : goal.returns-clause-full
returns-clause-full c = full_is

pub returns-clause-only : goal.returns-clause-only
returns-clause-only c = λ m g s grid full is. full_same m g s grid is full
