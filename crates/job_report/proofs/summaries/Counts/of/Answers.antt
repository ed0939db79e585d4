use Rattle.std.proofs.Common.{arith, ap, subst, sym, ◌≡◌, ◌∙◌, ◌+◌, drop, length}
use Rattle.job_text.specs.declared.jobs.Job.TheVariants.{Puzzle, Batch}
use Rattle.job_report.specs.Jobs.{puzzles}
use Rattle.job_report.specs.declared.summaries.Counts.{Counts}
use Rattle.job_report.proofs.Summed.{AreSmall, IsCounting, all_counted, begins_with, counted_batch, counted_puzzle, one_at_most}
use Rattle.job_report.proofs.summaries.Counts.of.Goals as goal
use Rattle.job_report.proofs.summaries.Counts.of.Goals.{in-Puzzle, in-Batch}

-- the invariant after this job
abbrev After : goal.Joined-job → Counts → Type 0
After c counts = record {
  small : AreSmall (c.loop-job.job-index + 1) counts;
  counting : IsCounting c.args.found.now c.args.jobs.now (drop (c.loop-job.job-index + 1) c.args.jobs.now) counts;
}

pub loop-job-preserved : goal.loop-job-preserved
loop-job-preserved c = elim c.match-job.branch [
  | in-Puzzle w ↦
      let before = begins_with c.args.found.now c.loop-job.job-index c.args.jobs.now c.job-item.result (Puzzle w.in-Puzzle.field-0)
      c.loop-job.counts c.loop-job-test.true c.job-item.is w.in-Puzzle.is c.loop-job.invariant.counting in
      let added = w.add_puzzle.ensures in
      let old = c.loop-job.invariant.small in
      subst (After c) (sym w.counts-is) (record {
        small = record {
          puzzles = omega (arith, old.puzzles, added.puzzles);
          overs = omega (arith, old.overs, added.overs, one_at_most c.args.found.now (c.loop-job.counts.puzzles + 1));
          solutions = omega (arith, old.solutions, added.solutions, added.small);
          batches = omega (arith, old.batches, added.others.0);
          items = omega (arith, old.items, added.others.1);
        };
        counting = counted_puzzle c.args.found.now c.args.jobs.now _ w.in-Puzzle.field-0 c.loop-job.counts w.add_puzzle.new.self before
            added.puzzles added.overs added.solutions added.others.0 added.others.1;
      })
  | in-Batch w ↦
      let before = begins_with c.args.found.now c.loop-job.job-index c.args.jobs.now c.job-item.result
      (Batch w.in-Batch.common w.in-Batch.items) c.loop-job.counts c.loop-job-test.true c.job-item.is w.in-Batch.is
      c.loop-job.invariant.counting in
      let added = w.add_batch.ensures in
      let old = c.loop-job.invariant.small in
      let long : length w.as_slice.result.now ≡ length w.in-Batch.items = ap length w.as_slice.ensures.items in
      subst (After c) (sym w.counts-is) (record {
        small = record {
          puzzles = omega (arith, old.puzzles, added.others.0);
          overs = omega (arith, old.overs, added.others.1);
          solutions = omega (arith, old.solutions, added.others.2);
          batches = omega (arith, old.batches, added.batches);
          items = omega (arith, old.items, added.items, long, w.as_slice.ensures.few);
        };
        counting = counted_batch c.args.found.now c.args.jobs.now _ w.in-Batch.common w.in-Batch.items c.loop-job.counts
            w.add_batch.new.self before added.batches (added.items ∙ ap (λ n. c.loop-job.counts.items + n) long) added.others.0
            added.others.1 added.others.2;
      })
]

pub returns-clause-puzzles : goal.returns-clause-puzzles
unfolding puzzles
returns-clause-puzzles c =
    let all = all_counted c.args.found.now c.loop-job.job-index c.args.jobs.now c.loop-job.counts c.loop-job-test.false
    c.loop-job.invariant.counting in
    omega (arith, all.puzzles_so_far)

pub returns-clause-overs : goal.returns-clause-overs
unfolding puzzles
returns-clause-overs c =
    let all = all_counted c.args.found.now c.loop-job.job-index c.args.jobs.now c.loop-job.counts c.loop-job-test.false
    c.loop-job.invariant.counting in
    omega (arith, all.overs_so_far)

pub returns-clause-solutions : goal.returns-clause-solutions
unfolding puzzles
returns-clause-solutions c =
    let all = all_counted c.args.found.now c.loop-job.job-index c.args.jobs.now c.loop-job.counts c.loop-job-test.false
    c.loop-job.invariant.counting in
    omega (arith, all.solutions_so_far)
