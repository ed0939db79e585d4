use Rattle.std.proofs.Common.{◌≡◌, ◌-◌}
use Rattle.std.specs.Prelude.{flat_map}
use Rattle.std.specs.List.{range_with_len}
use Rattle.tour_app.specs.Works.{pairs_with}
use Rattle.tour_app.proofs.desk.pairs_of.Given as goal

abbrev pub invariant-loop-second : goal.invariant-loop-second
invariant-loop-second l = l.units.items ≡ flat_map (pairs_with l.count) (range_with_len 1 (l.second - 1))
