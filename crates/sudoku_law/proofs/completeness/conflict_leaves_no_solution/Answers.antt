use Rattle.std.proofs.Common.{◌≡◌, true, false, sym, ◌∙◌}
use Rattle.sudoku_law.proofs.Complete.{no_conflict, none_without_candidates}
use Rattle.sudoku_law.proofs.completeness.conflict_leaves_no_solution.Goals as goal

pub returns-clause-conflict : goal.returns-clause-conflict
returns-clause-conflict c = λ m g s grid clashes is. let e : true ≡ false = sym clashes ∙ no_conflict m g s grid is in cc

pub returns-clause-blank : goal.returns-clause-blank
returns-clause-blank c = none_without_candidates
