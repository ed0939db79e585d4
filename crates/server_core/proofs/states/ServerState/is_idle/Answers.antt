use Rattle.server_core.proofs.Prelude.{◌∙◌, ap, idle_if, idle_told, none_tells, sym}
use Rattle.server_core.proofs.states.ServerState.is_idle.Goals as goal

pub returns-in-Some : goal.returns-in-Some
returns-in-Some c =
    let told = idle_told c.self.inside.parked.parked.waiting c.self.invariant.sound.parked.once c.args.rank in
    rw (← c.self.view_is)
    (none_tells c.in-Some.asked c.is_none.result c.is_none.ensures ∙ ap idle_if (sym c.in-Some.is ∙ c.awaits.ensures) ∙ sym told)

pub returns-in-None : goal.returns-in-None
returns-in-None c =
    let told = idle_told c.self.inside.parked.parked.waiting c.self.invariant.sound.parked.once c.args.rank in
    rw (← c.self.view_is) (ap idle_if (sym c.in-None.is ∙ c.awaits.ensures) ∙ sym told)
