use Rattle.std.proofs.Common.{sym, subst}
use Rattle.server_components.proofs.Small.{small_without}
use Rattle.server_components.specs.inside.Storing.{IsSmall}
use Rattle.server_components.proofs.stores.BatchStore.free.Goals as goal

pub invariant_of-self : goal.invariant_of-self
invariant_of-self c = subst IsSmall (sym c.remove.ensures.removed) (small_without c.self.inside.parts c.args.batch c.self.invariant)
