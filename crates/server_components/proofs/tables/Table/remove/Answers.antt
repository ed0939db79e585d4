use Rattle.std.proofs.Common.{◌∙◌, ap}
use Rattle.server_components.proofs.Ordered.{removed_is}
use Rattle.server_components.specs.Store.{Store, without}
use Rattle.server_components.proofs.tables.Table.remove.Goals as goal

pub returns-clause-removed : goal.returns-clause-removed
returns-clause-removed c =
    c.remove.ensures.entries ∙ removed_is c.args.batch c.self.inside.held.entries c.self.invariant
    ∙ ap (λ (s : Store). without s c.args.batch) c.self.view_is
