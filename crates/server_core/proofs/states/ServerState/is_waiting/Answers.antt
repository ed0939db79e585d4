use Rattle.server_core.proofs.Prelude.{◌∙◌, ap, is_some, waits_told}
use Rattle.server_core.proofs.states.ServerState.is_waiting.Goals as goal

pub returns : goal.returns
returns c =
    rw (← c.self.view_is)
    (c.is_some.ensures ∙ ap (λ o. is_some o) c.awaits.ensures ∙ waits_told c.self.inside.parked.parked.waiting c.args.rank)
