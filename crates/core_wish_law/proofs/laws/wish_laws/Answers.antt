use Rattle.core_law.proofs.Debts.{every_run_paid}
use Rattle.core_law.proofs.EveryRun.{every_run_well}
use Rattle.core_wish_law.proofs.Agreed.{every_run_agreed}
use Rattle.core_wish_law.proofs.Busy.{still_quiet}
use Rattle.core_wish_law.proofs.Foreseen.{always_covered, always_foreseen}
use Rattle.core_wish_law.proofs.laws.wish_laws.Goals as goal

pub returns : goal.returns
returns c = record {
  quiet = λ config events w server there run none.
      still_quiet w server (every_run_well config events w run) (every_run_paid config events w run) there none;
  agreed = every_run_agreed;
  covered = always_covered;
  foreseen = always_foreseen;
}
