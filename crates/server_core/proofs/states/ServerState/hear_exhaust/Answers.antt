use Rattle.server_core.proofs.Prelude.{◌∙◌, RingModel, ap, arith, exhaust_goes, ring_seen, room_less, state_of, true}
use Rattle.server_core.proofs.states.ServerState.hear_exhaust.Goals as goal

pub returns-clause-made : goal.returns-clause-made
returns-clause-made c from =
    let F : RingModel → RingModel = λ m. record m { exhausted = true } in
    let ring = c.hear_exhaust.ensures ∙ ap F (ring_seen c.self.invariant) in
    rw (← c.self.view_is) (exhaust_goes (state_of c.self.inside) c.args.out.now from c.hear_exhaust.new.self _ ring c.tell_all.ensures.made)

pub returns-clause-room : goal.returns-clause-room
returns-clause-room c =
    let room = rw (← c.self.view_is) at c.requires in
    room_less (c.tell_all.ensures.room 3 (record { tells = room.tells; places = room.places })) (omega arith)
