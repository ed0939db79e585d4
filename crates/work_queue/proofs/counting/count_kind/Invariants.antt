use Rattle.std.proofs.Common.{◌≡◌, ◌≤◌, ◌-◌, length}
use Rattle.work_queue.proofs.Tallies.{upto}
use Rattle.work_queue.proofs.counting.count_kind.Given as goal

abbrev pub invariant-loop-place : goal.invariant-loop-place
invariant-loop-place l = record {
  within : l.place ≤ length l.entries.items;
  counted : l.info ≡ upto l.kind l.entries.items l.place;
  free : l.info.free ≤ l.place;
  at_top : l.info.at_top ≤ l.info.free;
}

abbrev pub decreases-loop-place : goal.decreases-loop-place
decreases-loop-place l = length l.entries.items - l.place
