use Rattle.std.proofs.Common.{◌≡◌, ◌≤◌, ◌*◌, take}
use Rattle.tour_law.specs.Beginnings.{path_cost}
use Rattle.tour_search.specs.Cities.{costs}
use Rattle.tour_search.proofs.searching.cost_along.Given as goal

abbrev pub invariant-loop-place : goal.invariant-loop-place
invariant-loop-place l = record {
  cost : l.cost ≡ path_cost (costs l.cities) (take l.place l.path);
  low : l.cost ≤ 1000000 * l.place;
}
