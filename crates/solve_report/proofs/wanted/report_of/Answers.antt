use Rattle.std.proofs.Common.{◌≡◌, ◌<◌, ◌^◌, ◌∙◌, List, ap, sym, subst}
use Rattle.run_command.specs.Reports.{Reported}
use Rattle.job_report.specs.declared.outcomes.Outcome.{Outcome}
use Rattle.job_report.specs.Whole.{made_in}
use Rattle.solve_report.proofs.wanted.report_of.Goals as goal

pub render-requires : goal.render-requires
render-requires g c =
    let same : c.deref.result.now ≡ c.args.report.now.outcomes =
    c.deref.ensures.value ∙ ap (λ (r : Reported Outcome). r.outcomes) c.report.view_is in
    record { room = λ k. subst (λ (os : List Outcome). made_in k os < 2 ^ 128) (sym same) (c.requires.room k) }
