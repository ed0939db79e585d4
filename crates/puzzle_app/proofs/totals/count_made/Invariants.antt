use Rattle.std.proofs.Common.{◌≡◌, ◌+◌, ◌*◌, ◌≤◌, ◌^◌, length, drop}
use Rattle.job_report.specs.Jobs.{all_items, puzzles}
use Rattle.puzzle_app.proofs.totals.count_made.Given as goal

abbrev pub invariant-loop-job : goal.invariant-loop-job
invariant-loop-job l = record {
  boards : l.boards + length (puzzles (drop l.job-index l.jobs)) ≡ length (puzzles l.jobs);
  items : l.items + all_items (drop l.job-index l.jobs) ≡ all_items l.jobs;
  few_boards : l.boards ≤ l.job-index;
  few_items : l.items ≤ 2 ^ 24 * l.job-index;
}
