use Rattle.std.proofs.Common.{arith, subst, sym, List, ℕ}
use Rattle.tour_law.specs.Tours.{IsTour}
use Rattle.tour_law.specs.Search.{IsAsGood}
use Rattle.tour_law.specs.Beginnings.{Continues, IsBeginning}
use Rattle.tour_search.specs.Cities.{costs}
use Rattle.tour_search.proofs.Through.{all_tried_least, none_tried, one_tried, two_begin}
use Rattle.tour_search.proofs.first.least_of_few.Goals as goal

pub loop-city-init : goal.loop-city-init
loop-city-init c = record {
  known = c.with_cost-best.ensures.known;
  tried = none_tried c.args.cities.now.count (costs c.args.cities.now) c.with_cost-best.result.cities.items;
}

pub search_from-requires-clause-begins : goal.search_from-requires-clause-begins
search_from-requires-clause-begins c =
    subst (IsBeginning c.args.cities.now.count) (sym c.as_slice.ensures)
    (two_begin c.args.cities.now.count c.loop-city.city (omega arith) (omega arith))

pub loop-city-preserved : goal.loop-city-preserved
loop-city-preserved c = record {
  known = c.search_from.ensures.known;
  tried = one_tried c.args.cities.now.count (costs c.args.cities.now) c.loop-city.best.cities.items c.search_from.new.best.cities.items
      c.loop-city.city c.loop-city.invariant.tried c.search_from.ensures.good
      (subst (λ (l : List ℕ). (tour : List ℕ) → IsTour c.args.cities.now.count tour → Continues l tour →
      IsAsGood (costs c.args.cities.now) c.search_from.new.best.cities.items tour) c.as_slice.ensures c.in_ok-search_from.ensures.searched);
}

pub returns-clause-least : goal.returns-clause-least
returns-clause-least c =
    all_tried_least c.args.cities.now.count (costs c.args.cities.now) c.loop-city.best.cities.items c.loop-city.city
    (omega arith) (omega arith)
    c.loop-city.invariant.known.tour c.loop-city.invariant.tried
