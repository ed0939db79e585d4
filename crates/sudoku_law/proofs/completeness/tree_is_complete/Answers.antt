use Rattle.sudoku_law.proofs.Complete.{tree_complete}
use Rattle.sudoku_law.proofs.Law.{tree_law}
use Rattle.sudoku_law.proofs.Sound.{tree_sound}
use Rattle.sudoku_law.proofs.completeness.tree_is_complete.Goals as goal

pub returns-clause-law : goal.returns-clause-law
returns-clause-law c = tree_law

pub returns-clause-all : goal.returns-clause-all
returns-clause-all c = λ m b g s grid fine. (tree_sound m b g s grid, λ is. tree_complete m b g s grid is fine)
