use Rattle.server_core.proofs.Prelude.{◌∙◌, Outcome, ap, judges_go, ring_seen, state_of, step_room, verdict_of}
use Rattle.server_core.proofs.states.ServerState.judge.Goals as goal

pub returns-clause-made : goal.returns-clause-made
returns-clause-made c from =
    let verdict = ap (λ m. verdict_of m c.args.token) (ring_seen c.self.invariant) in
    rw (← c.self.view_is)
    (judges_go (state_of c.self.inside) c.args.out.now from c.args.token c.verdict-step.new.self c.verdict-step.result _
    c.tell_step.ensures.made (c.verdict-step.ensures.ring ∙ ap (λ (o : Outcome). o.ring) verdict)
    (c.verdict-step.ensures.step ∙ ap (λ (o : Outcome). o.step) verdict))

pub returns-clause-room : goal.returns-clause-room
returns-clause-room c =
    c.tell_step.ensures.room 1 (step_room c.verdict-step.result c.verdict-step.new.self (rw (← c.self.view_is) at c.requires.room))
