use Rattle.std.proofs.Common.{◌≤◌, ◌-◌, length}
use Rattle.work_queue.specs.inside.Index.{IsLeading, may_have, suits_better}
use Rattle.work_queue.proofs.ranking.best_entry.Given as goal

abbrev pub invariant-loop-place : goal.invariant-loop-place
invariant-loop-place l = record {
  within : l.place ≤ length l.entries.items;
  leads : IsLeading (may_have l.rank l.types) (suits_better l.rank) l.entries.items l.place l.best;
}

abbrev pub decreases-loop-place : goal.decreases-loop-place
decreases-loop-place l = length l.entries.items - l.place
