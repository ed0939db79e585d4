use Rattle.std.proofs.Common.{◌≡◌}
use Rattle.std.specs.List.{range_with_len}
use Rattle.tour_search.proofs.first.in_order.Given as goal

abbrev pub invariant-loop-city : goal.invariant-loop-city
invariant-loop-city l = l.order.items ≡ range_with_len 0 l.city
