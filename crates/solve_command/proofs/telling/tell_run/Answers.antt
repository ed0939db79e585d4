use Rattle.std.proofs.Common.{◌<◌, ◌^◌, List, IfOk, sym, subst}
use Rattle.run_command.specs.Reports.{Reported}
use Rattle.job_report.specs.Whole.{AreWhole, made_in}
use Rattle.job_report.specs.declared.outcomes.Outcome.{Outcome}
use Rattle.job_text.specs.declared.jobs.Job.{Job}
use Rattle.run_command.specs.Kept.{IsWorkedUp}
use Rattle.solve_command.proofs.Joining.{few_made, on_ok_always, run_whole, run_worked_up}
use Rattle.solve_report.specs.Told.{IsTold}
use Rattle.solve_command.proofs.telling.tell_run.Goals as goal

pub text_of-requires : goal.text_of-requires
text_of-requires g c = record {
  room = λ k. subst (λ (r : Reported Outcome). made_in k r.outcomes < 2 ^ 128) (sym c.report.ensures)
      (few_made c.args.settings c.args.asked.now c.args.kept.now.report c.requires k);
}

pub returns-clause-told : goal.returns-clause-told
returns-clause-told g c =
    let settings = c.args.settings in
    let wanted = c.args.wanted.now in
    let r : Reported Outcome = c.args.kept.now.report in
    let whole = run_whole settings c.args.asked.now r c.requires c.jobs.ensures.grids in
    subst (λ (l : List Job). IfOk c.text_of.result (λ text. IsTold g.E.Tail.tail settings wanted l r text.items)) c.jobs.ensures.jobs
    (subst (λ (x : Reported Outcome). IfOk c.text_of.result (λ text. IsTold g.E.Tail.tail settings wanted c.jobs.result.now x text.items))
    c.report.ensures
    (c.text_of.ensures settings
    (subst (λ (l : List Job). AreWhole settings.budget settings.grain l c.report.result.now.outcomes) (sym c.jobs.ensures.jobs)
    (subst (λ (x : Reported Outcome). AreWhole settings.budget settings.grain c.args.asked.now x.outcomes) (sym c.report.ensures) whole))))

pub returns-clause-worked_up : goal.returns-clause-worked_up
returns-clause-worked_up g c =
    let r : Reported Outcome = c.args.kept.now.report in
    on_ok_always (IsWorkedUp r) (run_worked_up c.args.settings c.args.asked.now r c.requires) c.text_of.result
