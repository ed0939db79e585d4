use Rattle.std.proofs.Common.{refl, sym, subst, Some, None, ◌∷◌, List, ◌++◌}
use Rattle.bag_ledger.specs.declared.entries.Call.TheVariants.{BeginBatch}
use Rattle.job_units.specs.declared.jobs.Job.{Job}
use Rattle.puzzle_app.specs.Desk.{Answers}
use Rattle.puzzle_app.specs.Tasks.{End, as_units, jobs_from, put_all}
use Rattle.puzzle_app.specs.Working.{IsGoing}
use Rattle.puzzle_app.specs.declared.calls.Reply.TheVariants as replies
use Rattle.puzzle_app.proofs.Calling.{so_open}
use Rattle.puzzle_app.proofs.Steps.{begun_is, going_so, refused_is, refused_so, replied, stopped_so, unbegun_is}
use Rattle.puzzle_app.proofs.UnderWay.{begin_way, whole_way}
use Rattle.puzzle_app.proofs.program.PuzzleProgram.put_batch.Goals as goal

pub begin-requires-clause-running : goal.begin-requires-clause-running
begin-requires-clause-running g c =
    let at = c.requires.going in
    so_open c.args.self.now _ (going_so c.args.self.now _ _ c.args.desk.now _ None at.1 refl)

pub returns-in_err-begin-clause-so_far : goal.returns-in_err-begin-clause-so_far
returns-in_err-begin-clause-so_far g c =
    let at = c.requires.going in
    begin_way c.args.self.now _ _ c.args.desk.now c.args.common.now (jobs_from c.args.batch 1 c.args.items.now) at.0 _ at.1 c.requires.none
    c.in_err-begin.ensures.same c.in_err-begin.ensures.begun

pub put_kept-requires-clause-going : goal.put_kept-requires-clause-going
put_kept-requires-clause-going g c =
    let at = c.requires.going in
    let jobs : List Job = jobs_from c.args.batch 1 c.args.items.now in (
      at.0,
      subst (λ bytes. IsGoing c.args.self.now (g.A.Adlb.link c.begin.new.link).said c.args.desk.now
          (put_all (as_units jobs) ++ End ∷ at.0) (Some bytes)) (sym c.bytes.ensures)
          (begun_is c.args.self.now _ _ c.args.desk.now c.args.common.now jobs at.0 at.1 c.requires.none
          (replied _ _ (BeginBatch c.args.common.now) _ replies.Accepted c.in_ok-begin.ensures.says c.in-Accepted.is)),
    )

pub returns-in_default-clause-so_far : goal.returns-in_default-clause-so_far
returns-in_default-clause-so_far g c =
    let at = c.requires.going in
    whole_way c.args.self.now _ _ _ c.in_ok-begin.ensures.fine
    (refused_so c.args.self.now _ _ c.args.desk.now c.args.common.now (jobs_from c.args.batch 1 c.args.items.now) at.0 at.1 c.requires.none
    (replied _ _ (BeginBatch c.args.common.now) _ replies.Rejected c.in_ok-begin.ensures.says c.in-Rejected.is))

pub put_all-requires-clause-going : goal.put_all-requires-clause-going
put_all-requires-clause-going g c =
    let at = c.requires.going in
    let answers : Answers c.args.batch c.args.common.now c.args.items.now c.args.desk.now c.answer_all.new.self =
    subst (λ bytes. Answers c.args.batch bytes c.args.items.now c.args.desk.now c.answer_all.new.self) c.bytes-in-Rejected.ensures
    c.in-Ok.ensures in (
      at.0,
      None,
      sym c.as_slice.ensures,
      refused_is c.args.self.now _ _ c.args.desk.now c.answer_all.new.self c.args.common.now c.args.batch c.args.items.now at.0 at.1
          c.requires.none
          (replied _ _ (BeginBatch c.args.common.now) _ replies.Rejected c.in_ok-begin.ensures.says c.in-Rejected.is) answers
          c.requires.few,
    )

pub returns-in-Accepted-clause-told : goal.returns-in-Accepted-clause-told
returns-in-Accepted-clause-told g c = λ rest start.
    let jobs : List Job = jobs_from c.args.batch 1 c.args.items.now in
    c.put_kept.ensures.told rest
    (subst (λ bytes. IsGoing c.args.self.now (g.A.Adlb.link c.begin.new.link).said c.args.desk.now (put_all (as_units jobs) ++ End ∷ rest)
    (Some bytes)) (sym c.bytes.ensures)
    (begun_is c.args.self.now _ _ c.args.desk.now c.args.common.now jobs rest start c.requires.none
    (replied _ _ (BeginBatch c.args.common.now) _ replies.Accepted c.in_ok-begin.ensures.says c.in-Accepted.is)))

pub returns-in-Ok-clause-told : goal.returns-in-Ok-clause-told
returns-in-Ok-clause-told g c = λ rest start.
    let answers : Answers c.args.batch c.args.common.now c.args.items.now c.args.desk.now c.answer_all.new.self =
    subst (λ bytes. Answers c.args.batch bytes c.args.items.now c.args.desk.now c.answer_all.new.self) c.bytes-in-Rejected.ensures
    c.in-Ok.ensures in
    c.put_all.ensures.told None (sym c.as_slice.ensures) rest
    (refused_is c.args.self.now _ _ c.args.desk.now c.answer_all.new.self c.args.common.now c.args.batch c.args.items.now rest start
    c.requires.none
    (replied _ _ (BeginBatch c.args.common.now) _ replies.Rejected c.in_ok-begin.ensures.says c.in-Rejected.is) answers c.requires.few)

pub returns-in-Ended-clause-told : goal.returns-in-Ended-clause-told
returns-in-Ended-clause-told g c = λ rest start.
    unbegun_is c.args.self.now _ _ c.args.desk.now c.args.common.now
    (jobs_from c.args.batch 1 c.args.items.now) rest c.in-Ended.field-0 start c.requires.none
    (replied _ _ (BeginBatch c.args.common.now) _ (replies.Ended c.in-Ended.field-0) c.in_ok-begin.ensures.says c.in-Ended.is)

pub returns-in-Ended-clause-so_far : goal.returns-in-Ended-clause-so_far
returns-in-Ended-clause-so_far g c =
    let at = c.requires.going in
    whole_way c.args.self.now _ _ _ c.in_ok-begin.ensures.fine (stopped_so c.args.self.now _ c.args.desk.now None
    (unbegun_is c.args.self.now _ _ c.args.desk.now c.args.common.now
    (jobs_from c.args.batch 1 c.args.items.now) at.0 c.in-Ended.field-0 at.1 c.requires.none
    (replied _ _ (BeginBatch c.args.common.now) _ (replies.Ended c.in-Ended.field-0) c.in_ok-begin.ensures.says c.in-Ended.is)))
