use Rattle.std.proofs.Common.{sym, subst}
use Rattle.run_command.specs.Reports.{Reported}
use Rattle.run_command.specs.Kept.{IsWorkedUp}
use Rattle.tour_app.specs.Found.{HoldLeast, all_found}
use Rattle.tour_app.specs.declared.outcomes.TourOutcome.{TourOutcome}
use Rattle.tour_command.proofs.Joining.{on_ok_always, run_least, run_worked_up}
use Rattle.tour_command.proofs.telling.tell_run.Goals as goal
use Rattle.tour_search.specs.Cities.{costs}

pub text_of-requires : goal.text_of-requires
text_of-requires c =
    subst (λ (r : Reported TourOutcome). HoldLeast c.args.cities.now.count (costs c.args.cities.now) (all_found r.outcomes))
    (sym c.report.ensures) (run_least c.args.cities.now c.args.kept.now.report c.requires)

pub returns-clause-worked_up : goal.returns-clause-worked_up
returns-clause-worked_up c =
    let r : Reported TourOutcome = c.args.kept.now.report in
    on_ok_always (IsWorkedUp r) (run_worked_up c.args.cities.now r c.requires) c.text_of.result
