use Rattle.server_core.proofs.Prelude.{◌∙◌, ◌≡◌, Bool, None, Some, ap, cond, false, hinted_stays, is_idle_since, is_some, parked_at}
use Rattle.server_core.proofs.Prelude.{parked_inside, parked_is, refl, true}
use Rattle.server_core.proofs.states.ServerState.hear_of.Goals as goal

pub hint-requires-clause-here : goal.hint-requires-clause-here
hint-requires-clause-here c = rw (parked_at c.self.invariant c.self.view_is) c.requires.here

pub hint-requires-clause-other : goal.hint-requires-clause-other
hint-requires-clause-other c = rw (parked_at c.self.invariant c.self.view_is) c.requires.other

pub invariant_of-self : goal.invariant_of-self
invariant_of-self c =
    parked_inside c.self.invariant c.hint.ensures.parked
    (hinted_stays (parked_is c.self.invariant) c.args.rank c.args.request c.args.from
    (rw (parked_at c.self.invariant c.self.view_is) c.requires.other))

pub returns-clause-idle : goal.returns-clause-idle
returns-clause-idle c =
    c.is_some.ensures ∙ ap (λ o. is_some o) c.hint.ensures.ask ∙ by_test (is_idle_since c.self.inside.parked c.args.rank c.args.request)
    ∙ ap (λ m. is_idle_since m c.args.rank c.args.request) (parked_at c.self.invariant c.self.view_is)
  where
    by_test : (b : Bool) → is_some (cond b (Some c.args.from) None) ≡ b
    by_test true = refl
    by_test false = refl
