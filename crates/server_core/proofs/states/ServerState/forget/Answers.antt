use Rattle.server_core.proofs.Prelude.{forgotten_if_stays, hints_next, parked_inside, parked_is}
use Rattle.server_core.proofs.states.ServerState.forget.Goals as goal

pub invariant_of-self : goal.invariant_of-self
invariant_of-self c =
    parked_inside c.self.invariant c.next_hint.ensures.parked
    (forgotten_if_stays (parked_is c.self.invariant) (hints_next c.args.kind c.args.target c.self.inside.parked.parked.wishes))
