use Rattle.server_core.proofs.Prelude.{quiet_tells}
use Rattle.server_core.proofs.states.ServerState.is_quiet.Goals as goal

pub returns-clause-quiet : goal.returns-clause-quiet
returns-clause-quiet c = quiet_tells c.args.self.now c.is_calm.result c.is_calm.ensures
