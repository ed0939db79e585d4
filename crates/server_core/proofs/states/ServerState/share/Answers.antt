use Rattle.server_core.proofs.Prelude.{change_inside, fetched, refl}
use Rattle.server_core.proofs.states.ServerState.share.Goals as goal

pub invariant_of-self-2 : goal.invariant_of-self-2
invariant_of-self-2 c =
    change_inside fetched (λ p. refl) c.args.batch c.self.invariant c.in_ok-body.ensures.parts c.in_ok-body.ensures.queue
