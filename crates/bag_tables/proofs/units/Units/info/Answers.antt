use Rattle.bag_tables.proofs.Telling.{info_told}
use Rattle.bag_tables.proofs.units.Units.info.Goals as goal

pub returns : goal.returns
returns c =
    rw (← c.self.view_is)
    (info_told c.self.inside.free c.self.inside.held.items c.self.invariant.counted c.args.server c.args.kind c.info.result c.info.ensures)
