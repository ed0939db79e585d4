use Rattle.std.proofs.Common.{length}
use Rattle.tour_app.proofs.Desks.{OverSoFar}
use Rattle.tour_app.proofs.desk.Desk.take_over.Given as goal

abbrev pub invariant-units : goal.invariant-units
invariant-units l = OverSoFar l.common l.fn.units.items l.fn.self l.self l.units.items

abbrev pub decreases-units : goal.decreases-units
decreases-units l = length l.units.items
