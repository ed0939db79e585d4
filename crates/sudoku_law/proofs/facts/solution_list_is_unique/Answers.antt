use Rattle.sudoku_law.proofs.Unique.{solutions_unique}
use Rattle.sudoku_law.proofs.facts.solution_list_is_unique.Goals as goal

pub returns : goal.returns
returns c = record { unique = solutions_unique }
