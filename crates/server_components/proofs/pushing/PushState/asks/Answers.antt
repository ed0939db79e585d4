use Rattle.std.proofs.Common.{false, ap, sym, ◌∙◌}
use Rattle.server_components.specs.Pushes.{PushModel}
use Rattle.server_components.proofs.StandingPushes.{answers_as}
use Rattle.server_components.proofs.pushing.PushState.asks.Goals as goal

pub returns-in-Some-clause-query : goal.returns-in-Some-clause-query
returns-in-Some-clause-query c =
    let push = c.args.self.now.pushing.push in
    let stands = ap (λ (m : PushModel). m.pushing.push) (sym c.self.view_is) ∙ c.in-Some.is in
    answers_as push c.in-Some.push c.args.to c.args.id false c.is_as.result stands c.is_as.ensures
