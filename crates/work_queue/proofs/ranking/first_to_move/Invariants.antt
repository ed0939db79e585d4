use Rattle.std.proofs.Common.{◌≤◌, ◌-◌, length}
use Rattle.work_queue.specs.inside.Index.{IsLeading, may_move, moves_first}
use Rattle.work_queue.proofs.ranking.first_to_move.Given as goal

abbrev pub invariant-loop-place : goal.invariant-loop-place
invariant-loop-place l = record {
  within : l.place ≤ length l.entries.items;
  leads : IsLeading may_move moves_first l.entries.items l.place l.first;
}

abbrev pub decreases-loop-place : goal.decreases-loop-place
decreases-loop-place l = length l.entries.items - l.place
