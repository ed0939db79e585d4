use Rattle.std.proofs.Common.{sym, subst}
use Rattle.run_command.specs.Reports.{Reported}
use Rattle.run_command.specs.Kept.{IsWorkedUp}
use Rattle.flow_app.specs.Finishing.{AreValues}
use Rattle.flow_app.specs.declared.finishing.FlowOutcome.{FlowOutcome}
use Rattle.flow_command.proofs.Joining.{on_ok_always, run_values, run_worked_up}
use Rattle.flow_command.proofs.telling.tell_run.Goals as goal

pub text_of-requires : goal.text_of-requires
text_of-requires c =
    subst (λ (r : Reported FlowOutcome). AreValues c.args.asked.now r.outcomes) (sym c.report.ensures)
    (run_values c.args.asked.now c.args.kept.now.report c.requires)

pub returns-clause-worked_up : goal.returns-clause-worked_up
returns-clause-worked_up c =
    let r : Reported FlowOutcome = c.args.kept.now.report in
    on_ok_always (IsWorkedUp r) (run_worked_up c.args.asked.now r c.requires) c.text_of.result
