use Rattle.std.proofs.Common.{◌∙◌}
use Rattle.bag_tables.proofs.Fitting.{fit_shown}
use Rattle.bag_tables.proofs.units.Units.has_fit_at.Goals as goal

pub returns : goal.returns
returns c =
    rw (← c.self.view_is)
    (c.has_fit.ensures ∙ fit_shown c.self.inside.free c.self.inside.held.items c.self.invariant.counted c.args.server c.args.rank
    c.args.types.now)
