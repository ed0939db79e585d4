use Rattle.server_core.proofs.Prelude.{arith, counts_within}
use Rattle.server_core.proofs.states.ServerState.waiting_and_wishes.Goals as goal

pub returns-clause-few : goal.returns-clause-few
returns-clause-few c =
    let few = counts_within c.self.invariant in
    omega (arith, few.0, few.1, c.counts.ensures.waiting, c.counts.ensures.wishes, c.self.inside.config.ranks_within.1)
