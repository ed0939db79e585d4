use Rattle.server_core.proofs.Prelude.{◌↔◌, ◌≡◌, IsTrue, Some, rules}
use Rattle.server_core.proofs.states.ServerState.is_pinned.Goals as goal

pub returns : goal.returns
returns c =
    let same : IsTrue c.eq.result ↔ (c.pinned_to.result ≡ Some c.args.rank) = search rules in
    rw (← c.self.view_is) (λ is. (c.pinned_to.ensures c.args.rank).0 (same.0 is), λ has. same.1 ((c.pinned_to.ensures c.args.rank).1 has))
