use Rattle.std.proofs.Common.{◌≡◌, ◌++◌, length}
use Rattle.std.specs.Prelude.{flat_map}
use Rattle.tour_app.specs.Works.{found_in}
use Rattle.tour_app.proofs.desk.Desk.outcome.Given as goal

abbrev pub invariant-left : goal.invariant-left
invariant-left l =
    l.found.items ++ flat_map found_in l.waiting.items ≡ l.fn.self.found.items ++ flat_map found_in l.fn.self.waiting.items

abbrev pub decreases-left : goal.decreases-left
decreases-left l = length l.waiting.items
