use Rattle.server_core.proofs.Prelude.{IsRunning, ring_seen, subst, sym}
use Rattle.server_core.proofs.states.ServerState.hear_failed.Goals as goal

pub failed-requires : goal.failed-requires
failed-requires c =
    subst (λ m. IsRunning m c.args.token) (sym (ring_seen c.self.invariant)) (rw (← c.self.view_is) at c.requires)
