use Rattle.server_core.proofs.Prelude.{arith, room_less}
use Rattle.server_core.proofs.states.ServerState.hear_done.Goals as goal

pub returns-clause-room : goal.returns-clause-room
returns-clause-room c =
    let room = rw (← c.self.view_is) at c.requires.room in
    room_less (c.tell_all.ensures.room 2 (c.say.ensures.room 2 (record { tells = room.tells; places = room.places }))) (omega arith)
