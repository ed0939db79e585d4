use Rattle.flow_run_law.proofs.Laws.{known}
use Rattle.flow_units.specs.Bodies.{forms}
use Rattle.flow_units.proofs.Backs.{are_forms, have_types}
use Rattle.values_law.proofs.Joining.{all_freed, all_spent, flow_run, values_right}
use Rattle.values_law.proofs.value_laws.Goals as goal

pub returns-clause-values : goal.returns-clause-values
returns-clause-values c = λ config ledger last flow outcomes some legal run. values_right config ledger flow outcomes run some last legal

pub returns-clause-entered : goal.returns-clause-entered
returns-clause-entered c = λ config ledger last flow outcomes some legal run.
    c.entry_laws.ensures.entered (forms config.ranks) config ledger some (are_forms config.ranks some) flow
    (flow_run config ledger flow outcomes run) last legal

pub returns-clause-known : goal.returns-clause-known
returns-clause-known c = λ config ledger last flow outcomes some legal run front s back i op a b x fits put split.
    known (forms config.ranks) config ledger some (are_forms config.ranks some) flow (flow_run config ledger flow outcomes run) last legal
    front s back i op a b x fits put split

pub returns-clause-complete : goal.returns-clause-complete
returns-clause-complete c = λ config ledger last flow outcomes some legal run distinct taken.
    c.entry_laws.ensures.complete (forms config.ranks) config ledger some (are_forms config.ranks some) flow
    (flow_run config ledger flow outcomes run) last legal (have_types config.ranks) distinct taken

pub returns-clause-spent : goal.returns-clause-spent
returns-clause-spent c = λ config ledger last flow outcomes some legal run. all_spent config ledger flow outcomes run some last legal

pub returns-clause-freed : goal.returns-clause-freed
returns-clause-freed c = λ config ledger last flow outcomes some legal run. all_freed config ledger flow outcomes run some last legal
