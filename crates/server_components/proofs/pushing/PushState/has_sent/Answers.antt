use Rattle.std.proofs.Common.{true, ap, sym, ◌∙◌}
use Rattle.server_components.specs.Pushes.{PushModel}
use Rattle.server_components.proofs.StandingPushes.{answers_as}
use Rattle.server_components.proofs.pushing.PushState.has_sent.Goals as goal

pub returns-in-Some-clause-sent : goal.returns-in-Some-clause-sent
returns-in-Some-clause-sent c =
    let push = c.args.self.now.pushing.push in
    let stands = ap (λ (m : PushModel). m.pushing.push) (sym c.self.view_is) ∙ c.in-Some.is in
    answers_as push c.in-Some.push c.args.to c.args.id true c.is_as.result stands c.is_as.ensures
