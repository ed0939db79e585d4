use Rattle.server_core.proofs.Prelude.{◌∙◌, open_told, share_told, sym}
use Rattle.server_core.proofs.states.ServerState.can_share.Goals as goal

pub returns-in-Some-default-Some : goal.returns-in-Some-default-Some
returns-in-Some-default-Some c =
    let i = c.self.inside in
    let is = rw c.in-Some-default-Some.field-0-1-is at (sym c.part.ensures ∙ c.in-Some-default-Some.is) in
    rw (← c.self.view_is) (share_told i.parts c.args.batch i.queue.common c.self.invariant.sound.charged _ _ is)

pub returns-in-Some-default-None : goal.returns-in-Some-default-None
returns-in-Some-default-None c =
    let i = c.self.inside in
    let is = rw c.in-Some-default-None.field-0-1-is at (sym c.part.ensures ∙ c.in-Some-default-None.is) in
    rw (← c.self.view_is) (open_told i.parts c.args.batch i.queue.common c.self.invariant.sound.charged _ is)
