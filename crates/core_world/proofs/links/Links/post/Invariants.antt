use Rattle.std.proofs.Common.{◌≡◌}
use Rattle.std.specs.Vec.{vec_capacity}
use Rattle.std.specs.Vec.Iter.{drain_capacity, drain_items}
use Rattle.core_run.specs.World.{post}
use Rattle.core_world.proofs.links.Links.post.Given as goal

-- what is still to be sent leads to the same links, and the list keeps its room
abbrev pub invariant-loop-sending : goal.invariant-loop-sending
invariant-loop-sending l = record {
  posted : post l.config l.self l.from (drain_items l.sending-iterator) ≡ post l.config l.fn.self l.from l.fn.sends.items;
  room : drain_capacity l.sending-iterator ≡ vec_capacity l.fn.sends;
}
