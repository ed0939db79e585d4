use Rattle.std.proofs.Common.{refl}
use Rattle.work_queue.proofs.Conditions.{promise_from_room}
use Rattle.actor_tests.proofs.queue.withdraw.Goals as goal

pub withdraw-requires : goal.withdraw-requires
withdraw-requires c = promise_from_room c.args.queue.now.promises c.args.id c.in-Some._length ((c.in-Some.ensures c.in-Some._length).0 refl)
