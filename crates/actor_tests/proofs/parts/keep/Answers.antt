use Rattle.server_components.proofs.Charged.{fresh_charged}
use Rattle.actor_tests.proofs.parts.keep.Goals as goal

pub returns-in-Ok : goal.returns-in-Ok
returns-in-Ok c = rw (c.in-Ok.ensures.kept, c.in-Ok.ensures.charged)
    (fresh_charged c.args.store.now c.args.batch c.args.bytes c.args.queue.now.common)
