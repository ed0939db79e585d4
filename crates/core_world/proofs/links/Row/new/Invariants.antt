use Rattle.std.proofs.Common.{◌≡◌, [], replicate}
use Rattle.core_world.proofs.links.Row.new.Given as goal

abbrev pub invariant-loop-list : goal.invariant-loop-list
invariant-loop-list l = l.links.items ≡ replicate l._list []
