use Rattle.server_core.proofs.Prelude.{best_for, grants_inside, parked_at, parked_is, reserved_stays, wish_of}
use Rattle.server_core.proofs.states.ServerState.seek.Goals as goal

pub reserve-requires-clause-here : goal.reserve-requires-clause-here
reserve-requires-clause-here c = rw (parked_at c.self.invariant c.self.view_is) c.requires.here

pub reserve-requires-clause-new : goal.reserve-requires-clause-new
reserve-requires-clause-new c = rw (parked_at c.self.invariant c.self.view_is) c.requires.new

pub invariant_of-self : goal.invariant_of-self
invariant_of-self c =
    let wish = wish_of c.args.rank c.args.request c.args.types.now in
    let best = best_for c.self.inside.queue wish.rank wish.types in
    let is = parked_at c.self.invariant c.self.view_is in
    grants_inside c.self.invariant wish.rank wish.types c.reserve.ensures.parked
    (reserved_stays (parked_is c.self.invariant) wish (rw is c.requires.here) (rw is c.requires.new) best) c.reserve.ensures.queue
