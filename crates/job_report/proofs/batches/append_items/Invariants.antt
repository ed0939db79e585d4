use Rattle.std.proofs.Common.{◌≡◌, ◌+◌, ◌++◌, drop}
use Rattle.job_report.specs.inside.{lines_told}
use Rattle.job_report.proofs.batches.append_items.Given as goal

abbrev pub invariant-loop-item : goal.invariant-loop-item
invariant-loop-item l = record {
  numbered : l.number ≡ l.item-index + 1;
  lines : l.text.items ++ lines_told l.answers l.batch l.number (drop l.item-index l.items) ≡ l.fn.text.items ++ lines_told l.answers
      l.batch 1 l.items;
}
