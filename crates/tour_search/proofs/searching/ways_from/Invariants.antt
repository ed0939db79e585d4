use Rattle.std.proofs.Common.{◌≡◌, ◌≤◌, ◌*◌, take}
use Rattle.std.specs.Prelude.{sum_by}
use Rattle.tour_search.specs.Cities.{out_of}
use Rattle.tour_search.proofs.searching.ways_from.Given as goal

abbrev pub invariant-loop-city : goal.invariant-loop-city
invariant-loop-city l = record {
  sum : l.sum ≡ sum_by (out_of l.ways) (take l.city-index l.beginning);
  low : l.sum ≤ 1000000 * l.city-index;
}
