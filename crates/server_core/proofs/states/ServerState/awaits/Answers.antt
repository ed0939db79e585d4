use Rattle.server_core.proofs.Prelude.{runs_at_home_says, runs_says}
use Rattle.server_core.proofs.states.ServerState.awaits.Goals as goal

pub returns-in-Reserve : goal.returns-in-Reserve
returns-in-Reserve c = rw (c.in-Reserve.is, c.runs_at_home.ensures) (runs_at_home_says c.args.self.now c.args.from)

pub returns-in-Count : goal.returns-in-Count
returns-in-Count c = rw (c.in-Count.is, c.runs_at_home-in-Count.ensures) (runs_at_home_says c.args.self.now c.args.from)

pub returns-in-Finish : goal.returns-in-Finish
returns-in-Finish c = rw (c.in-Finish.is, c.runs.ensures) (runs_says c.args.self.now c.args.from)
