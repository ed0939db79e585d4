use Rattle.server_core.proofs.Prelude.{room_moved}
use Rattle.server_core.proofs.states.ServerState.press.Goals as goal

pub returns-in-Some-clause-room : goal.returns-in-Some-clause-room
returns-in-Some-clause-room c =
    c.say.ensures.room 1 (room_moved c.self.inside.queue c.pressure.new.self.pushing (rw (← c.self.view_is) at c.requires))
