use Rattle.tour_search.proofs.Sums.{AreWays}
use Rattle.tour_search.proofs.ways.ways_out.Given as goal

abbrev pub invariant-loop-city : goal.invariant-loop-city
invariant-loop-city l = AreWays l.cities l.ways.items l.city
