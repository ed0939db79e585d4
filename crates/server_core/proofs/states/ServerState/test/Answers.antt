use Rattle.server_core.proofs.Prelude.{◌==◌, ◌∙◌, ◌∷◌, ◌⊎◌, Act, Bool, HasComeBack, IsToTest, Option, Outcome, RingModel, UnitId, [], ap}
use Rattle.server_core.proofs.Prelude.{first_failing, first_fit, going_on, is_quiet, judged_check, ring_at, ring_seen, state_of, step_fits}
use Rattle.server_core.proofs.Prelude.{step_room, subst, sym, tests, tests_go, tests_second, visited2, visited_inside}
use Rattle.server_core.proofs.states.ServerState.test.Goals as goal

pub visit2-step-requires : goal.visit2-step-requires
visit2-step-requires c =
    let is = ring_seen c.self.invariant ∙ ap ring_at c.self.view_is in
    subst (λ m. HasComeBack m c.args.token ⊎ IsToTest m c.args.token) (sym is) c.requires.again

pub invariant_of-self : goal.invariant_of-self
invariant_of-self c =
    let i = c.self.inside in
    let fails = first_failing c.is_quiet-quiet.result i.ring.ring.mark i.activity c.fits-fits.result in
    visited_inside c.self.invariant c.visit2-step.ensures.own (ap (λ (m : RingModel). m.ring.check) c.visit2-step.ensures.ring
    ∙ judged_check i.ring c.args.token fails)

pub tell_step-requires : goal.tell_step-requires
tell_step-requires c = step_fits c.visit2-step.result c.visit2-step.new.self (rw (← c.self.view_is) at c.requires.room)

pub returns-clause-made : goal.returns-clause-made
returns-clause-made c from =
    let i = c.self.inside in
    let s = state_of i in
    let t = c.args.token in
    let visit = ap (λ m. visited2 m t c.is_quiet-quiet.result i.activity c.fits-fits.result) (ring_seen c.self.invariant) in
    let go = tests_go s c.args.out.now from t c.visit2-step.new.self c.visit2-step.result _ c.tell_step.ensures.made c.is_quiet-quiet.result
    c.fits-fits.result (tests_second s t (rw (← c.self.view_is) at c.requires.again))
    (c.visit2-step.ensures.ring ∙ ap (λ (o : Outcome). o.ring) visit)
    (c.visit2-step.ensures.step ∙ ap (λ (o : Outcome). o.step) visit) in
    let same = c.fits-fits.ensures.found ∙ ap (λ asked. first_fit asked i.queue.units) c.pairs.ensures.pairs in
    let calm = c.is_quiet-quiet.ensures.test ∙ ap is_quiet (sym c.self.view_is) in
    let now : Bool → Option UnitId → Act = λ b f. tests (s.me.0 == 0) (first_failing b s.kept.ring.mark s.activity f) from t in
    rw (← c.self.view_is)
    (go ∙ ap (λ b. going_on c.args.out.now (now b c.fits-fits.result ∷ []) s) calm
    ∙ ap (λ f. going_on c.args.out.now (now (is_quiet s) f ∷ []) s) same)

pub returns-clause-room : goal.returns-clause-room
returns-clause-room c =
    c.tell_step.ensures.room 1 (step_room c.visit2-step.result c.visit2-step.new.self (rw (← c.self.view_is) at c.requires.room))
