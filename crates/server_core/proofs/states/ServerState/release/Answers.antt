use Rattle.server_core.proofs.Prelude.{gone_stays, parked_at, parked_inside, parked_is}
use Rattle.server_core.proofs.states.ServerState.release.Goals as goal

pub remote_end-requires : goal.remote_end-requires
remote_end-requires c = rw (parked_at c.self.invariant c.self.view_is) c.requires

pub invariant_of-self : goal.invariant_of-self
invariant_of-self c = parked_inside c.self.invariant c.remote_end.ensures (gone_stays (parked_is c.self.invariant) c.args.rank)
