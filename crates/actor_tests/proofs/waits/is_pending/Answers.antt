use Rattle.std.proofs.Common.{◌∙◌, Some, ap, sym}
use Rattle.server_components.proofs.Conditions.{pending}
use Rattle.actor_tests.proofs.waits.is_pending.Goals as goal

pub returns-in-Some-default-Some : goal.returns-in-Some-default-Some
returns-in-Some-default-Some c = λ _.
    let at = c.in-Some-default-Some in
    let told = sym c.awaits.ensures ∙ at.is ∙ ap (λ s. Some (at.field-0-0, s)) at.field-0-1-is in
    pending c.args.parked.now c.args.rank at.field-0-0 at.field-0-1-0 told
