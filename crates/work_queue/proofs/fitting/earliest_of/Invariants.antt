use Rattle.std.proofs.Common.{◌≤◌}
use Rattle.work_queue.specs.inside.Index.{IsLeading, came_first, may_serve}
use Rattle.work_queue.proofs.fitting.earliest_of.Given as goal

abbrev pub invariant-loop-place : goal.invariant-loop-place
invariant-loop-place l = record {
  from : l.start ≤ l.place;
  below : l.place ≤ l.end;
  leads : IsLeading (may_serve l.asked) came_first l.entries.items l.place l.first;
}
