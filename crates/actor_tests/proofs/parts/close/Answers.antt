use Rattle.std.proofs.Common.{refl}
use Rattle.server_components.proofs.Charged.{changed_charged}
use Rattle.server_components.specs.Store.{closed}
use Rattle.actor_tests.proofs.parts.close.Goals as goal

pub returns-then-close : goal.returns-then-close
returns-then-close c =
    rw (c.close.ensures.parts, c.close.ensures.queue) (changed_charged (closed c.args.accepted)
    (λ p. refl) c.args.store.now c.args.batch c.args.queue.now c.requires)

pub returns-else-close : goal.returns-else-close
returns-else-close c =
    rw (c.close.ensures.parts, c.close.ensures.queue) (changed_charged (closed c.args.accepted)
    (λ p. refl) c.args.store.now c.args.batch c.args.queue.now c.requires)
