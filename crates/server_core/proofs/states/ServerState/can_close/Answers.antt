use Rattle.server_core.proofs.Prelude.{◌∙◌, close_told, sym}
use Rattle.server_core.proofs.states.ServerState.can_close.Goals as goal

pub returns-in-Some-default-None : goal.returns-in-Some-default-None
returns-in-Some-default-None c =
    let i = c.self.inside in
    let is = close_told i.parts c.args.batch i.queue.common c.self.invariant.sound.charged c.in-Some-default-None.fetches c.args.accepted in
    rw (← c.self.view_is) (is (rw c.in-Some-default-None.field-0-1-is at (sym c.part.ensures ∙ c.in-Some-default-None.is)))
