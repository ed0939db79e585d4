use Rattle.std.proofs.Common.{sym, subst}
use Rattle.server_components.proofs.Small.{small_turned}
use Rattle.server_components.specs.inside.Storing.{IsSmall}
use Rattle.server_components.specs.Store.{closed}
use Rattle.server_components.proofs.stores.BatchStore.close.Goals as goal

pub invariant_of-self : goal.invariant_of-self
invariant_of-self c = subst IsSmall (sym c.close.ensures) (small_turned (closed c.args.accepted)
    (λ p low. low) c.self.inside.parts c.args.batch c.self.invariant)
