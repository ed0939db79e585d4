use Rattle.std.proofs.Common.{◌≡◌, drop}
use Rattle.tour_app.specs.Found.{best_from, seen}
use Rattle.tour_app.proofs.output.best_in.Given as goal

abbrev pub invariant-loop-tour : goal.invariant-loop-tour
invariant-loop-tour l = best_from (seen l.best) (drop l.tour-index l.found) ≡ best_from (seen l.fn.known) l.found
