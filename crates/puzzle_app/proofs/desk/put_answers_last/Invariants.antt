use Rattle.std.proofs.Common.{◌≡◌, ◌+◌, ◌++◌, drop}
use Rattle.puzzle_app.specs.Desk.{answers_to}
use Rattle.puzzle_app.specs.Tasks.{jobs_from}
use Rattle.puzzle_app.proofs.desk.put_answers_last.Given as goal

abbrev pub invariant-loop-item : goal.invariant-loop-item
invariant-loop-item l = record {
  numbered : l.number ≡ l.item-index + 1;
  waits : l.waiting.items ++ answers_to l.common (jobs_from l.batch l.number (drop l.item-index l.items)) ≡
      l.fn.waiting.items ++ answers_to l.common (jobs_from l.batch 1 l.items);
}
