use Rattle.server_core.proofs.Prelude.{◌↔◌, ◌∙◌, ◌≡◌, IsTrue, Some, rules, state_of, sym, unanswered_else, unanswered_none, unanswered_then}
use Rattle.server_core.proofs.states.ServerState.is_unanswered.Goals as goal

pub returns-then-since-request : goal.returns-then-since-request
returns-then-since-request c =
    let same : IsTrue c.eq.result ↔ (c.in-Some.asked ≡ Some c.args.from) = search rules in
    rw (← c.self.view_is)
    (unanswered_then (state_of c.self.inside) c.self.invariant.sound.parked.once c.args.from c.args.rank c.args.request c.in-Some.since
    c.in-Some.asked (sym c.awaits.ensures ∙ c.in-Some.is) c.if-since-request.true c.eq.result same)

pub returns-else-since-request : goal.returns-else-since-request
returns-else-since-request c =
    rw (← c.self.view_is)
    (unanswered_else (state_of c.self.inside) c.self.invariant.sound.parked.once c.args.from c.args.rank c.args.request c.in-Some.since
    c.in-Some.asked (sym c.awaits.ensures ∙ c.in-Some.is) c.if-since-request.false)

pub returns-in-None : goal.returns-in-None
returns-in-None c =
    rw (← c.self.view_is)
    (unanswered_none (state_of c.self.inside) c.self.invariant.sound.parked.once c.args.from c.args.rank c.args.request
    (sym c.awaits.ensures ∙ c.in-None.is))
