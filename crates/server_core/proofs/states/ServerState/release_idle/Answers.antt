use Rattle.server_core.proofs.Prelude.{first_idle, gone_if_stays, parked_inside, parked_is}
use Rattle.server_core.proofs.states.ServerState.release_idle.Goals as goal

pub invariant_of-self : goal.invariant_of-self
invariant_of-self c =
    parked_inside c.self.invariant c.end_idle.ensures.parked (gone_if_stays (parked_is c.self.invariant) (first_idle c.self.inside.parked))
