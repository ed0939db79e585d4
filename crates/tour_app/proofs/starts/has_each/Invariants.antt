use Rattle.std.proofs.Common.{◌≡◌, true}
use Rattle.tour_app.specs.Starts.{has_each}
use Rattle.tour_app.proofs.starts.has_each.Given as goal

abbrev pub invariant-loop-city : goal.invariant-loop-city
invariant-loop-city l = has_each l.city l.tour ≡ true
