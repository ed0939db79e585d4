use Rattle.std.proofs.Common.{◌≤◌, ◌-◌, length}
use Rattle.work_queue.specs.inside.Index.{IsLeading, came_first, may_serve}
use Rattle.work_queue.proofs.fitting.first_asked.Given as goal

abbrev pub invariant-loop-place : goal.invariant-loop-place
invariant-loop-place l = record {
  within : l.place ≤ length l.entries.items;
  leads : IsLeading (may_serve l.asked) came_first l.entries.items l.place l.first;
}

abbrev pub decreases-loop-place : goal.decreases-loop-place
decreases-loop-place l = length l.entries.items - l.place
