use Rattle.tour_search.specs.Cities.{IsKnown, costs}
use Rattle.tour_search.proofs.Through.{IsTried}
use Rattle.tour_search.proofs.first.least_of_few.Given as goal

abbrev pub invariant-loop-city : goal.invariant-loop-city
invariant-loop-city l = record {
  known : IsKnown l.cities l.best;
  tried : IsTried l.cities.count (costs l.cities) l.best.cities.items l.city;
}
