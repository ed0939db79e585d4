use Rattle.std.proofs.Common.{sym, subst}
use Rattle.server_components.proofs.Small.{either_way, small_inserted}
use Rattle.server_components.specs.inside.Storing.{IsSmall}
use Rattle.server_components.specs.Store.{fresh}
use Rattle.server_components.proofs.stores.BatchStore.put.Goals as goal

pub invariant_of-self : goal.invariant_of-self
invariant_of-self c =
    either_way c.put.result c.put.ensures.put c.put.ensures.err
    (λ e. subst IsSmall (sym e) (small_inserted c.self.inside.parts c.args.batch (fresh c.in_ok-bytes.bytes) c.self.invariant
    (rw c.in_ok-bytes.ensures c.requires.size)))
    (λ e. subst IsSmall (sym e) c.self.invariant)
