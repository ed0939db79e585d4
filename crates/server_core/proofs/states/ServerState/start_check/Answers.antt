use Rattle.server_core.proofs.Prelude.{◌∙◌, Outcome, ap, askers_parked, check_alone, check_is, started_inside, state_of, take, with_check}
use Rattle.server_core.proofs.states.ServerState.start_check.Goals as goal

pub start-requires-clause-parked : goal.start-requires-clause-parked
start-requires-clause-parked c = askers_parked c.self.invariant (rw (← c.self.view_is) at c.put_askers-count.ensures.front)

pub invariant_of-self : goal.invariant_of-self
invariant_of-self c =
    started_inside (take c.put_askers-count.result c.put_askers-count.new.room) c.fits_alone-fits.result c.self.invariant c.self.view_is
    c.start.ensures.ring c.start.ensures.own c.requires.may.zeroth c.requires.young

pub returns-clause-step : goal.returns-clause-step
returns-clause-step c =
    c.start.ensures.step
    ∙ ap (λ (o : Outcome). o.step)
    (check_is c.self.invariant c.self.view_is c.put_askers-count.ensures.front c.fits_alone-fits.ensures)

pub returns-clause-ring : goal.returns-clause-ring
returns-clause-ring c =
    let check = check_is c.self.invariant c.self.view_is c.put_askers-count.ensures.front c.fits_alone-fits.ensures in
    ap (with_check (state_of c.self.inside)) (c.start.ensures.ring ∙ ap (λ (o : Outcome). o.ring) check)
    ∙ ap (λ t. with_check t (check_alone c.args.self.now).ring) c.self.view_is
