use Rattle.std.proofs.Common.{ap, ◌∙◌, sym, subst}
use Rattle.core_world.specs.Applied.{IsEnabled}
use Rattle.core_world.specs.Seen.{Seen}
use Rattle.core_world.proofs.Reached.{next_reached}
use Rattle.core_world.proofs.Stopping.{happens_config, stops_config}
use Rattle.core_world.proofs.worlds.World.carry_out.Goals as goal

pub returns-in-Ok-clause-config : goal.returns-in-Ok-clause-config
returns-in-Ok-clause-config c =
    let i = c.self.inside in
    happens_config i.stage c.carry_out.new.self c.args.event c.in-Ok.ensures.happened ∙ ap (λ (s : Seen). s.world.config) c.self.view_is

pub returns-in-Err-clause-config : goal.returns-in-Err-clause-config
returns-in-Err-clause-config c =
    let i = c.self.inside in
    let enabled : IsEnabled i.stage c.args.event =
    subst (λ (s : Seen). IsEnabled s.world c.args.event) (sym c.self.view_is) c.requires.enabled in
    stops_config i.stage c.carry_out.new.self c.args.event c.in-Err.trouble enabled c.in-Err.ensures.stops
    ∙ ap (λ (s : Seen). s.world.config) c.self.view_is

pub invariant_of-self : goal.invariant_of-self
invariant_of-self c = λ none.
    let e = c.in-Ok.ensures in
    (e.whole, next_reached c.self.inside.stage c.carry_out.new.self c.args.event (c.self.invariant none).1 e.happened e.stamp)
