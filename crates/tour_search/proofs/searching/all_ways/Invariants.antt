use Rattle.std.proofs.Common.{◌≡◌, ◌≤◌, ◌*◌}
use Rattle.tour_law.specs.Search.{sum_below}
use Rattle.tour_search.specs.Cities.{out_of}
use Rattle.tour_search.proofs.searching.all_ways.Given as goal

abbrev pub invariant-loop-city : goal.invariant-loop-city
invariant-loop-city l = record {
  sum : l.sum ≡ sum_below l.city (out_of l.ways);
  low : l.sum ≤ 1000000 * l.city;
}
