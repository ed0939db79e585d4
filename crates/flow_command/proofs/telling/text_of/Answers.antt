use Rattle.std.proofs.Common.{List, sym, subst, ap, ◌≡◌, ◌∙◌}
use Rattle.run_command.specs.Reports.{Reported}
use Rattle.flow_law.specs.declared.Definition.{Definition}
use Rattle.flow_app.specs.Finishing.{AreValues}
use Rattle.flow_app.specs.declared.finishing.FlowOutcome.{FlowOutcome}
use Rattle.flow_command.proofs.telling.text_of.Goals as goal

pub finish_flow-requires : goal.finish_flow-requires
finish_flow-requires c =
    let same : c.deref.result.now ≡ c.args.report.now.outcomes =
    c.deref.ensures.value ∙ ap (λ (r : Reported FlowOutcome). r.outcomes) c.report.view_is in
    subst (λ (f : List Definition). AreValues f c.deref.result.now) (sym c.flow.ensures)
    (subst (λ (os : List FlowOutcome). AreValues c.args.asked.now os) (sym same) c.requires)
