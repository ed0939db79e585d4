use Rattle.std.proofs.Common.{◌-◌, length}
use Rattle.tour_search.proofs.UnderWay.{IsSearched}
use Rattle.tour_search.proofs.branching.+branch.Given as goal

abbrev pub decreases-branch : goal.decreases-branch
decreases-branch l = l.cities.now.count - length l.beginning.now.items

abbrev pub invariant-loop-city : goal.invariant-loop-city
invariant-loop-city l = IsSearched l.cities l.fn.beginning l.fn.best l.beginning l.best l.city
