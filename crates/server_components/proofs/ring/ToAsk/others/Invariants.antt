use Rattle.std.proofs.Common.{◌≡◌, ◌-◌, map}
use Rattle.std.specs.List.{range_with_len}
use Rattle.adlb_unit.specs.Ring.{behind}
use Rattle.server_components.proofs.ring.ToAsk.others.Given as goal

abbrev pub invariant-loop-places : goal.invariant-loop-places
invariant-loop-places l = l.all ≡ map (behind l.config l.me) (range_with_len 1 (l.places - 1))
