use Rattle.std.proofs.Common.{arith}
use Rattle.puzzle_app.proofs.Inputs.{items_next, puzzles_end, puzzles_next}
use Rattle.puzzle_app.proofs.totals.count_made.Goals as goal

pub loop-job-preserved : goal.loop-job-preserved
loop-job-preserved c = record {
  boards = omega (
    arith,
    puzzles_next c.args.jobs.now c.loop-job.job-index c.job-item.result c.loop-job-test.true c.job-item.is,
    c.boards_in-boards.ensures.is,
    c.loop-job.invariant.boards,
  );
  items = omega (
    arith,
    items_next c.args.jobs.now c.loop-job.job-index c.job-item.result c.loop-job-test.true c.job-item.is,
    c.items_in-items.ensures.is,
    c.loop-job.invariant.items,
  );
  few_boards = omega (arith, c.boards_in-boards.ensures.few, c.loop-job.invariant.few_boards);
  few_items = omega (arith, c.items_in-items.ensures.few, c.loop-job.invariant.few_items);
}

pub returns-clause-boards : goal.returns-clause-boards
returns-clause-boards c = omega (arith, puzzles_end c.args.jobs.now c.loop-job.job-index c.loop-job-test.false, c.loop-job.invariant.boards)
