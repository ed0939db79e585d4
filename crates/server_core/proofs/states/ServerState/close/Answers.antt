use Rattle.server_core.proofs.Prelude.{change_inside, closed, refl}
use Rattle.server_core.proofs.states.ServerState.close.Goals as goal

pub invariant_of-self : goal.invariant_of-self
invariant_of-self c =
    change_inside (closed c.args.accepted) (λ p. refl) c.args.batch c.self.invariant c.close-freed.ensures.parts c.close-freed.ensures.queue
