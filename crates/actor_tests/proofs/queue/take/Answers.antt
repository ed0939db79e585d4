use Rattle.std.proofs.Common.{refl}
use Rattle.actor_tests.proofs.queue.take.Goals as goal

pub take_pinned-requires : goal.take_pinned-requires
take_pinned-requires c = (c.in-Some.ensures c.in-Some.holder).0 refl
