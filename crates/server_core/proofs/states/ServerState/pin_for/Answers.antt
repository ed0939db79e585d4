use Rattle.server_core.proofs.Prelude.{None, ask_stays, best_for, grants_inside, parked_at, parked_inside, parked_is, wish_of}
use Rattle.server_core.proofs.states.ServerState.pin_for.Goals as goal

pub refuse_ask-requires : goal.refuse_ask-requires
refuse_ask-requires c = rw (parked_at c.self.invariant c.self.view_is) c.requires

pub remote_ask-requires : goal.remote_ask-requires
remote_ask-requires c = rw (parked_at c.self.invariant c.self.view_is) c.requires

pub invariant_of-self : goal.invariant_of-self
invariant_of-self c =
    parked_inside c.self.invariant c.refuse_ask.ensures
    (ask_stays (parked_is c.self.invariant) (wish_of c.args.rank c.args.request c.args.types.now)
    (rw (parked_at c.self.invariant c.self.view_is) c.requires) None)

pub invariant_of-self-2 : goal.invariant_of-self-2
invariant_of-self-2 c =
    let wish = wish_of c.args.rank c.args.request c.args.types.now in
    grants_inside c.self.invariant wish.rank wish.types c.remote_ask.ensures.parked
    (ask_stays (parked_is c.self.invariant) wish (rw (parked_at c.self.invariant c.self.view_is) c.requires)
    (best_for c.self.inside.queue wish.rank wish.types)) c.remote_ask.ensures.queue
