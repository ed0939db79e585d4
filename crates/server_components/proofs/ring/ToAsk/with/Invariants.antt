use Rattle.std.proofs.Common.{◌≡◌, ◌≤◌, ◌==◌, ◌||◌, ◌-◌, filter, length, map}
use Rattle.std.specs.List.{range_with_len}
use Rattle.adlb_unit.specs.Ring.{behind}
use Rattle.adlb_unit.specs.declared.names.Server.{Server}
use Rattle.server_components.specs.Calls.{has_server}
use Rattle.server_components.proofs.ring.ToAsk.with.Given as goal

abbrev pub invariant-loop-places : goal.invariant-loop-places
invariant-loop-places l =
    (l.all ≡ filter (λ (s : Server). (s.0 == l.server.0) || has_server l.self s) (map (behind l.config l.me) (range_with_len 1
    (l.places - 1))))
    × (length l.all ≤ l.places - 1)
