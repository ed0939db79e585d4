use Rattle.tour_law.specs.Tours.{IsTour}
use Rattle.tour_search.proofs.first.go_nearest.Given as goal

abbrev pub invariant-loop-place : goal.invariant-loop-place
invariant-loop-place l = IsTour l.cities.count l.tour
