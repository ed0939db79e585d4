use Rattle.std.proofs.Common.{◌≡◌, ◌++◌, drop, map, take}
use Rattle.server_components.specs.Calls.{wants}
use Rattle.server_components.proofs.parking.Parked.asked.Given as goal

abbrev pub invariant-loop-waits : goal.invariant-loop-waits
invariant-loop-waits l =
    (l.count ≡ l.waits-index) × (l.room ≡ map wants (take l.waits-index l.self.parked.waiting) ++ drop l.waits-index l.initial.room)
