use Rattle.std.proofs.Common.{refl, sym, get_or}
use Rattle.sudoku_law.proofs.Below.{fewest_is_blank}
use Rattle.sudoku_law.proofs.Complete.{its_digit, set_solution}
use Rattle.sudoku_law.proofs.Digits.{candidate_some}
use Rattle.sudoku_law.proofs.Distinct.{has_digit, children_apart}
use Rattle.sudoku_law.proofs.Sound.{unset}
use Rattle.sudoku_law.proofs.completeness.solutions_extend_one_child.Goals as goal

pub returns-clause-blank : goal.returns-clause-blank
returns-clause-blank c = fewest_is_blank

pub returns-clause-candidate : goal.returns-clause-candidate
returns-clause-candidate c = its_digit

pub returns-clause-extends : goal.returns-clause-extends
returns-clause-extends c = λ m g s cell grid blank is. set_solution m g s cell (get_or s cell 0) blank.within is refl

pub returns-clause-child : goal.returns-clause-child
returns-clause-child c = λ m g s cell d blank there. (
  λ is. (unset m g s cell d blank is, has_digit m g s cell d blank.within (candidate_some m g cell d there) is),
  λ w. set_solution m g s cell d blank.within w.0 (sym w.1),
)

pub returns-clause-apart : goal.returns-clause-apart
returns-clause-apart c =
    λ m g s cell d e blank in_d in_e at_d at_e. children_apart m g s cell d e blank.within (candidate_some m g cell d in_d)
    (candidate_some m g cell e in_e) at_d at_e
