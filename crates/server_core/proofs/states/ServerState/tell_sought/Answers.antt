use Rattle.server_core.proofs.states.ServerState.tell_sought.Goals as goal

pub returns-in-Ask-clause-room : goal.returns-in-Ask-clause-room
returns-in-Ask-clause-room c = c.ask.ensures.room 1 c.requires.room
