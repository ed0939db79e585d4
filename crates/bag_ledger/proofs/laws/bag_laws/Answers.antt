use Rattle.std.proofs.Common.{◌≡◌, ◌∙◌, ap, arith, Some}
use Rattle.bag_ledger.specs.Bag.{settled, start}
use Rattle.bag_ledger.proofs.Bridge.{row_is, is_row}
use Rattle.bag_ledger.proofs.Legal.{run_from, none_found, found_is, is_found, run_split}
use Rattle.bag_ledger.proofs.Settled.{settled_is, is_settled}
use Rattle.bag_ledger.proofs.laws.bag_laws.Goals as goal

pub returns-clause-same_step : goal.returns-clause-same_step
returns-clause-same_step c = λ b next e. (row_is b next e, is_row b next e)

pub returns-clause-settled_means : goal.returns-clause-settled_means
returns-clause-settled_means c = λ b. (settled_is b, is_settled b)

pub returns-clause-legal_run : goal.returns-clause-legal_run
returns-clause-legal_run c = λ config ledger.
    (λ run. none_found (start config) run.0 0 ledger run.1, run_from (start config) 0 ledger)

pub returns-clause-first_place : goal.returns-clause-first_place
returns-clause-first_place c = λ config ledger place. (
  λ first. is_found (start config) 0 place ledger first ∙ ap Some (omega arith),
  λ found. let is = found_is (start config) 0 place ledger found in
      let same : place ≡ is.0 = omega (arith, is.1) in
      rw same is.2,
)

pub returns-clause-beginnings : goal.returns-clause-beginnings
returns-clause-beginnings c = λ config ledger rest run.
    let s = run_split settled (start config) run.0 ledger rest run.1 in
    (s.0, s.1)
