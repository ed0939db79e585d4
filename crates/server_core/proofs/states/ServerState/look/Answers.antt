use Rattle.server_core.proofs.Prelude.{grants_inside, parked_is, refl, same_stays}
use Rattle.server_core.proofs.states.ServerState.look.Goals as goal

pub invariant_of-self : goal.invariant_of-self
invariant_of-self c =
    grants_inside c.self.invariant c.args.from c.args.types.now refl (same_stays (parked_is c.self.invariant)) c.try_reserve.ensures.queue

pub invariant_of-self-in-None : goal.invariant_of-self-in-None
invariant_of-self-in-None c =
    grants_inside c.self.invariant c.args.from c.args.types.now refl (same_stays (parked_is c.self.invariant)) c.try_reserve.ensures.queue

pub returns-in-Some-clause-room : goal.returns-in-Some-clause-room
returns-in-Some-clause-room c =
    let room = rw (← c.self.view_is) at c.requires.room in
    c.grant.ensures.room 1 (record { tells = room.tells; places = room.places })
