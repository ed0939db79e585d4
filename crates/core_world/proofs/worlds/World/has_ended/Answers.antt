use Rattle.std.proofs.Common.{ap, subst, ◌∙◌}
use Rattle.core_run.specs.World.{has_ended, pool_of}
use Rattle.core_world.proofs.Ended.{ended_is}
use Rattle.core_world.proofs.Rested.{rested}
use Rattle.core_world.specs.Seen.{Seen}
use Rattle.core_world.specs.Stage.{IsReached}
use Rattle.core_world.proofs.worlds.World.has_ended.Goals as goal

pub returns-clause-rests : goal.returns-clause-rests
returns-clause-rests c = λ whole few nothing.
    let reached = subst (λ (s : Seen). IsReached s.world) c.self.view_is
    (c.self.invariant (ap (λ (s : Seen). s.trouble) c.self.view_is ∙ whole)).1 in
    rested c.args.self.now.world c.ended.result c.args.server reached c.requires
    (ended_is c.server_at.result.now c.ended.result c.ended.ensures
    ∙ ap has_ended (c.server_at.ensures ∙ ap (λ (s : Seen). pool_of s.world c.args.server) c.self.view_is)) few nothing
