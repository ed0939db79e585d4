use Rattle.server_core.proofs.Prelude.{◌∙◌, promised, sym}
use Rattle.server_core.proofs.states.ServerState.has_promised.Goals as goal

pub returns : goal.returns
returns c =
    let told = promised c.args.id c.self.inside.queue.promises c.promised.result c.promised.ensures in
    rw (← c.self.view_is) (λ yes. told.0 (sym c.is_some.ensures ∙ yes), λ has. c.is_some.ensures ∙ told.1 has)
