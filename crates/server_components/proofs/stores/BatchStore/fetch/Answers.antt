use Rattle.std.proofs.Common.{sym, subst}
use Rattle.server_components.proofs.Small.{small_turned}
use Rattle.server_components.specs.inside.Storing.{IsSmall}
use Rattle.server_components.specs.Store.{fetched}
use Rattle.server_components.proofs.stores.BatchStore.fetch.Goals as goal

pub invariant_of-self : goal.invariant_of-self
invariant_of-self c = subst IsSmall (sym c.fetch.ensures) (small_turned fetched
    (λ p low. low) c.self.inside.parts c.args.batch c.self.invariant)
