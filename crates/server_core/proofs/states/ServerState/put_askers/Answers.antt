use Rattle.server_core.proofs.Prelude.{arith, counts_within, in_front}
use Rattle.server_core.proofs.states.ServerState.put_askers.Goals as goal

pub returns-clause-front : goal.returns-clause-front
returns-clause-front c = rw (← c.self.view_is) (in_front c.self.inside.parked.parked.waiting _ c.asked.ensures.count c.asked.ensures.room)

pub returns-clause-within : goal.returns-clause-within
returns-clause-within c =
    omega (arith, (counts_within c.self.invariant).0, c.asked.ensures.count, c.self.inside.config.ranks_within.1)
