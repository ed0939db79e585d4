use Rattle.std.proofs.Common.{◌∙◌}
use Rattle.adlb_unit.specs.Ids.{same_unit}
use Rattle.bag_tables.proofs.Finding.{searched}
use Rattle.bag_tables.proofs.units.Units.place_of.Goals as goal

pub returns : goal.returns
returns c =
    rw (← c.self.view_is)
    (searched (λ u. same_unit u.unit.id c.args.id) c.self.inside.held.items c.get.result
    (c.get.ensures ∙ c.self.invariant.placed c.args.id))
