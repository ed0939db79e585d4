use Rattle.std.proofs.Common.{refl, ◌∙◌, ◌+◌, ◌++◌, List, arith, drop}
use Rattle.puzzle_app.specs.Tasks.{Task, as_units, jobs_from, put_all}
use Rattle.puzzle_app.proofs.Inputs.{job_is_next, no_job_is_next}
use Rattle.puzzle_app.proofs.Steps.{all_is, going_so, not_all_is}
use Rattle.puzzle_app.proofs.UnderWay.{whole_way}
use Rattle.puzzle_app.proofs.program.PuzzleProgram.put_jobs.Goals as goal

pub put_next-requires-clause-going : goal.put_next-requires-clause-going
put_next-requires-clause-going g c =
    let at = c.requires.going in
    let later : List Task = put_all (as_units
    (jobs_from c.args.batch (c.loop-item.number + 1) (drop (c.loop-item.item-index + 1) c.args.items.now))) ++ at.0 in (
      later,
      at.1,
      at.2,
      job_is_next c.args.self.now _ c.loop-item.desk c.args.batch c.loop-item.number c.args.items.now c.loop-item.item-index _ at.0 at.1
          c.loop-item-test.true (c.loop-item.invariant.going at.0 at.1 at.2 at.3),
    )

pub returns-then-not-branch-clause-told : goal.returns-then-not-branch-clause-told
returns-then-not-branch-clause-told g c = λ on bytes rest start.
    let later : List Task = put_all (as_units
    (jobs_from c.args.batch (c.loop-item.number + 1) (drop (c.loop-item.item-index + 1) c.args.items.now))) ++ rest in
    not_all_is _ _ _ c.if-not-branch.true (c.in_ok-put_next.ensures.told on bytes later
    (job_is_next c.args.self.now _ c.loop-item.desk c.args.batch c.loop-item.number c.args.items.now c.loop-item.item-index _ rest on
    c.loop-item-test.true (c.loop-item.invariant.going rest on bytes start)))

pub loop-item-preserved : goal.loop-item-preserved
loop-item-preserved g c =
    let at = c.requires.going in
    let later : List Task → List Task =
    λ rest. put_all (as_units (jobs_from c.args.batch (c.loop-item.number + 1) (drop (c.loop-item.item-index + 1) c.args.items.now))) ++
    rest in
    let first = all_is _ _ _ c.if-not-branch.false (c.in_ok-put_next.ensures.told at.1 at.2 (later at.0)
    (job_is_next c.args.self.now _ c.loop-item.desk c.args.batch c.loop-item.number c.args.items.now c.loop-item.item-index _ at.0 at.1
    c.loop-item-test.true (c.loop-item.invariant.going at.0 at.1 at.2 at.3))) in
    record {
      numbered = omega (arith, c.loop-item.invariant.numbered);
      none = first.none;
      going = λ rest on bytes start. (all_is _ _ _ c.if-not-branch.false (c.in_ok-put_next.ensures.told on bytes (later rest)
          (job_is_next c.args.self.now _ c.loop-item.desk c.args.batch c.loop-item.number c.args.items.now c.loop-item.item-index _ rest on
          c.loop-item-test.true (c.loop-item.invariant.going rest on bytes start)))).going;
      whole = c.in_ok-put_next.ensures.kept.whole;
      seat = c.in_ok-put_next.ensures.kept.seat ∙ c.loop-item.invariant.seat;
      batch = c.in_ok-put_next.ensures.kept.batch ∙ c.loop-item.invariant.batch;
    }

pub returns-clause-told : goal.returns-clause-told
returns-clause-told g c = λ on bytes rest start. record {
  going = no_job_is_next c.args.self.now _ c.loop-item.desk c.args.batch c.loop-item.number c.args.items.now c.loop-item.item-index rest on
      c.loop-item-test.false
      (c.loop-item.invariant.going rest on bytes start);
  none = c.loop-item.invariant.none;
}

pub returns-clause-so_far : goal.returns-clause-so_far
returns-clause-so_far g c =
    let at = c.requires.going in
    whole_way c.args.self.now _ _ _ c.loop-item.invariant.whole
    (going_so c.args.self.now _ _ c.loop-item.desk _ at.1 (c.loop-item.invariant.going at.0 at.1 at.2 at.3) refl)
