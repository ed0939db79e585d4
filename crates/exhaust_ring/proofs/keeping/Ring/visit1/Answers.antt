use Rattle.std.proofs.Common.{arith}
use Rattle.exhaust_ring.proofs.Named.{joined_few}
use Rattle.exhaust_ring.proofs.keeping.Ring.visit1.Goals as goal

pub put_last-requires : goal.put_last-requires
put_last-requires c =
    let first = c.requires.first in
    let few = joined_few c.args.self.now.config c.args.self.now.me c.args.token.asked c.args.parked.now first.named first.away
    c.requires.parked in
    omega (arith, few, c.args.self.now.config.ranks_within.1)
