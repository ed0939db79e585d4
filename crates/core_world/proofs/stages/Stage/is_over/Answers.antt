use Rattle.std.proofs.Common.{ap, sym, ◌∙◌}
use Rattle.core_run.specs.Runs.{is_over}
use Rattle.core_run.specs.World.{has_ended}
use Rattle.core_world.proofs.Ended.{ended_is}
use Rattle.core_world.proofs.stages.Stage.is_over.Goals as goal

pub returns-in-Server : goal.returns-in-Server
returns-in-Server c =
    ended_is c.server_at.result.now c.ended.result c.ended.ensures ∙ ap has_ended c.server_at.ensures
    ∙ ap (is_over c.args.self.now) (sym c.in-Server.is)
