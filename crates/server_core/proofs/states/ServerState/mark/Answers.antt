use Rattle.server_core.proofs.Prelude.{◌∙◌, ◌∷◌, Outcome, RingModel, [], ap, askers, askers_parked, going_on, is_quiet, marked_check, marks}
use Rattle.server_core.proofs.Prelude.{marks_go, ring_seen, state_of, step_fits, step_room, visited1, visited_inside}
use Rattle.server_core.proofs.states.ServerState.mark.Goals as goal

pub visit1-step-requires-clause-parked : goal.visit1-step-requires-clause-parked
visit1-step-requires-clause-parked c = askers_parked c.self.invariant (rw (← c.self.view_is) at c.put_askers-count.ensures.front)

pub invariant_of-self : goal.invariant_of-self
invariant_of-self c =
    visited_inside c.self.invariant c.visit1-step.ensures.own (ap (λ (m : RingModel). m.ring.check) c.visit1-step.ensures.ring
    ∙ marked_check c.self.inside.ring c.args.token c.is_quiet-quiet.result c.self.inside.activity _)

pub tell_step-requires : goal.tell_step-requires
tell_step-requires c = step_fits c.visit1-step.result c.visit1-step.new.self (rw (← c.self.view_is) at c.requires.room)

pub returns-clause-made : goal.returns-clause-made
returns-clause-made c from =
    let i = c.self.inside in
    let t = c.args.token in
    let quiet = c.is_quiet-quiet.result in
    let visit = ap (visited1 i.ring t quiet i.activity) (rw (← c.self.view_is) at c.put_askers-count.ensures.front)
    ∙ ap (λ m. visited1 m t quiet i.activity (askers (state_of i).kept)) (ring_seen c.self.invariant) in
    let goes = marks_go (state_of i) c.args.out.now from t c.visit1-step.new.self c.visit1-step.result _ c.tell_step.ensures.made quiet
    c.requires.first.wave (c.visit1-step.ensures.ring ∙ ap (λ (o : Outcome). o.ring) visit)
    (c.visit1-step.ensures.step ∙ ap (λ (o : Outcome). o.step) visit) in
    goes ∙ ap (λ b. going_on c.args.out.now (marks b from t ∷ []) (state_of i)) c.is_quiet-quiet.ensures.test
    ∙ ap (going_on c.args.out.now (marks (is_quiet c.args.self.now) from t ∷ [])) c.self.view_is

pub returns-clause-room : goal.returns-clause-room
returns-clause-room c =
    c.tell_step.ensures.room 1 (step_room c.visit1-step.result c.visit1-step.new.self (rw (← c.self.view_is) at c.requires.room))
