use Rattle.std.proofs.Common.{◌≡◌, ◌-◌, ◌++◌}
use Rattle.std.specs.List.{range_with_len}
use Rattle.tour_app.specs.Works.{pairs_among}
use Rattle.tour_app.proofs.desk.append_pairs.Given as goal

abbrev pub invariant-loop-third : goal.invariant-loop-third
invariant-loop-third l = l.units.items ≡ l.fn.units.items ++ pairs_among l.second (range_with_len 1 (l.third - 1))
