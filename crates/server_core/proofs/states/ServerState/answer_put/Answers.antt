use Rattle.server_core.proofs.Prelude.{◌∙◌, ◌≡◌, ServerModel, ap, refl, sym, true}
use Rattle.server_core.proofs.states.ServerState.answer_put.Goals as goal

pub put-requires-clause-new : goal.put-requires-clause-new
put-requires-clause-new c = (rw (← c.self.view_is) at c.requires.awaited).new

pub put-requires-clause-unpromised : goal.put-requires-clause-unpromised
put-requires-clause-unpromised c = (rw (← c.self.view_is) at c.requires.awaited).unpromised

pub returns-then-self-clause-ok : goal.returns-then-self-clause-ok
returns-then-self-clause-ok c =
    let done : c.args.self.now.kept.done ≡ true = ap (λ (t : ServerModel). t.kept.done) (sym c.self.view_is) ∙ c.if-self.true in
    rw (c.end_call.ensures.counted, c.end_call.ensures.told, done, c.requires.awaited.sender) refl
