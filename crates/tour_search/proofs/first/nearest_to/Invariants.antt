use Rattle.std.proofs.Common.{◌≤◌, ◌<◌, length}
use Rattle.tour_search.proofs.first.nearest_to.Given as goal

abbrev pub invariant-loop-other : goal.invariant-loop-other
invariant-loop-other l = record {
  behind : l.place ≤ l.nearest;
  within : l.nearest < length l.tour;
}
