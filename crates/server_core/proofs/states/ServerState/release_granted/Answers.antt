use Rattle.server_core.proofs.Prelude.{gone_stays, parked_at, parked_inside, parked_is}
use Rattle.server_core.proofs.states.ServerState.release_granted.Goals as goal

pub remote_grant-requires : goal.remote_grant-requires
remote_grant-requires c = rw (parked_at c.self.invariant c.self.view_is) c.requires

pub invariant_of-self : goal.invariant_of-self
invariant_of-self c = parked_inside c.self.invariant c.remote_grant.ensures (gone_stays (parked_is c.self.invariant) c.args.rank)
