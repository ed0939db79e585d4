use Rattle.std.proofs.Common.{◌≡◌, [], replicate}
use Rattle.core_world.proofs.links.Links.new.Given as goal

abbrev pub invariant-loop-list : goal.invariant-loop-list
invariant-loop-list l = l.rows.items ≡ replicate l._list (replicate l.actors [])
