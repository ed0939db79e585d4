use Rattle.sudoku_law.proofs.Exact.{conflict_exact, fewest_exact, none_exact}
use Rattle.sudoku_law.proofs.facts.tests_are_exact.Goals as goal

pub returns-clause-conflict : goal.returns-clause-conflict
returns-clause-conflict c = conflict_exact

pub returns-clause-fewest : goal.returns-clause-fewest
returns-clause-fewest c = fewest_exact

pub returns-clause-full : goal.returns-clause-full
returns-clause-full c = none_exact
