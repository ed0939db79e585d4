use Rattle.std.proofs.Common.{◌∙◌, ◌+◌, ap, sym, subst, arith, drop, List, None}
use Rattle.puzzle_app.specs.Tasks.{Task, tasks_from}
use Rattle.puzzle_app.specs.Working.{IsGoing, behind}
use Rattle.puzzle_app.specs.declared.places.Place.{Place}
use Rattle.puzzle_app.proofs.Inputs.{behind_sum, no_task_is_next, task_is_next}
use Rattle.puzzle_app.proofs.Steps.{all_is, not_all_is}
use Rattle.puzzle_app.proofs.program.PuzzleProgram.put_input.Goals as goal

pub put_job-requires-clause-going : goal.put_job-requires-clause-going
put_job-requires-clause-going g c =
    let next : Place = behind c.loop-job.at c.job-item.result in
    let later : List Task = tasks_from c.args.self.now.settings.budget next.puzzle next.batch
    (drop (c.loop-job.job-index + 1) c.args.jobs.now) in (
      later,
      task_is_next c.args.self.now _ c.loop-job.desk c.loop-job.at c.args.jobs.now c.loop-job.job-index c.job-item.result
          c.loop-job-test.true c.job-item.is c.loop-job.invariant.going,
    )

pub returns-then-not-branch-clause-told : goal.returns-then-not-branch-clause-told
returns-then-not-branch-clause-told g c =
    let next : Place = behind c.loop-job.at c.job-item.result in
    let later : List Task = tasks_from c.args.self.now.settings.budget next.puzzle next.batch
    (drop (c.loop-job.job-index + 1) c.args.jobs.now) in
    not_all_is _ _ _ c.if-not-branch.true (c.in_ok-put_job.ensures.told later
    (task_is_next c.args.self.now _ c.loop-job.desk c.loop-job.at c.args.jobs.now c.loop-job.job-index c.job-item.result
    c.loop-job-test.true c.job-item.is c.loop-job.invariant.going))

pub loop-job-preserved : goal.loop-job-preserved
loop-job-preserved g c =
    let next : Place = behind c.loop-job.at c.job-item.result in
    let tasks_at : Place → List Task = λ at. tasks_from c.args.self.now.settings.budget at.puzzle at.batch
    (drop (c.loop-job.job-index + 1) c.args.jobs.now) in
    let put = all_is _ _ _ c.if-not-branch.false (c.in_ok-put_job.ensures.told (tasks_at next)
    (task_is_next c.args.self.now _ c.loop-job.desk c.loop-job.at c.args.jobs.now c.loop-job.job-index c.job-item.result
    c.loop-job-test.true c.job-item.is c.loop-job.invariant.going)) in
    record {
      few = omega (
        arith,
        ap (λ (at : Place). at.puzzle + at.batch) c.behind-at.ensures,
        behind_sum c.loop-job.at c.job-item.result,
        c.loop-job.invariant.few,
      );
      none = put.none;
      going = subst (λ at. IsGoing c.args.self.now (g.A.Adlb.link c.put_job.new.link).said c.put_job.new.desk (tasks_at at) None)
          (sym c.behind-at.ensures) put.going;
      whole = c.in_ok-put_job.ensures.kept.whole;
      seat = c.in_ok-put_job.ensures.kept.seat ∙ c.loop-job.invariant.seat;
      batch = c.in_ok-put_job.ensures.kept.batch;
    }

pub returns-clause-told : goal.returns-clause-told
returns-clause-told g c = record {
  going = no_task_is_next c.args.self.now _ c.loop-job.desk c.loop-job.at c.args.jobs.now c.loop-job.job-index c.loop-job-test.false
      c.loop-job.invariant.going;
  none = c.loop-job.invariant.none;
}
