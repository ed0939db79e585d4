use Rattle.server_core.proofs.Prelude.{◌∙◌, ParkedModel, ServerModel, after_none, ap, best_for, entry_of, grants_inside, none_stays}
use Rattle.server_core.proofs.Prelude.{parked_at, parked_is, pending_there, seat_at, step_for, with_grant}
use Rattle.server_core.proofs.states.ServerState.look_again.Goals as goal

pub remote_none-requires : goal.remote_none-requires
remote_none-requires c = rw (parked_at c.self.invariant c.self.view_is) c.requires

pub invariant_of-self : goal.invariant_of-self
invariant_of-self c =
    let here = pending_there c.self.inside.parked c.args.rank (rw (parked_at c.self.invariant c.self.view_is) c.requires) in
    let told = c.remote_none.ensures in
    let stays = none_stays (parked_is c.self.invariant) c.args.rank (best_for c.self.inside.queue c.args.rank here.0.wish.types) in
    grants_inside c.self.invariant c.args.rank here.0.wish.types (told.parked here.0 here.1) stays (told.queue here.0 here.1)

pub returns-clause-step : goal.returns-clause-step
returns-clause-step c e found =
    let is = parked_at c.self.invariant c.self.view_is in
    c.remote_none.ensures.step e (rw is found)
    ∙ ap (λ (m : ParkedModel). step_for m.me (best_for c.self.inside.queue c.args.rank e.wish.types) e.to_ask) is
    ∙ ap (λ (u : ServerModel). step_for c.args.self.now.me (best_for u.kept.queue c.args.rank e.wish.types) e.to_ask) c.self.view_is

pub returns-clause-made : goal.returns-clause-made
returns-clause-made c e found =
    let there = ap (λ m. entry_of m c.args.rank) (parked_at c.self.invariant c.self.view_is) ∙ found in
    seat_at c.self.invariant c.self.view_is (λ u. with_grant u.kept.queue c.args.rank e.wish.types)
    (λ u m. after_none m c.args.rank (best_for u.kept.queue c.args.rank e.wish.types)) (c.remote_none.ensures.parked e there)
    (c.remote_none.ensures.queue e there)
