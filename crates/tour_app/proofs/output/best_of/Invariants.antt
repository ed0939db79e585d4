use Rattle.std.proofs.Common.{◌≡◌, None, drop}
use Rattle.tour_app.specs.Found.{all_found, best_from, seen}
use Rattle.tour_app.proofs.output.best_of.Given as goal

abbrev pub invariant-loop-outcome : goal.invariant-loop-outcome
invariant-loop-outcome l = best_from (seen l.best) (all_found (drop l.outcome-index l.outcomes)) ≡ best_from None (all_found l.outcomes)
