use Rattle.std.proofs.Common.{◌∙◌}
use Rattle.adlb_unit.specs.Ids.{same_batch}
use Rattle.bag_tables.proofs.Finding.{searched}
use Rattle.bag_tables.proofs.parts.Parts.place_of.Goals as goal

pub returns : goal.returns
returns c =
    rw (← c.self.view_is)
    (searched (λ p. same_batch p.batch c.args.batch) c.self.inside.held.items c.get.result
    (c.get.ensures ∙ c.self.invariant.placed c.args.batch))
