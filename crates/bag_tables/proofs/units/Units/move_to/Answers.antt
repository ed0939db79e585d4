use Rattle.std.proofs.Common.{sym}
use Rattle.bag_tables.proofs.UnitsKept.{units_moved}
use Rattle.bag_tables.proofs.units.Units.move_to.Goals as goal

pub invariant_of-self : goal.invariant_of-self
invariant_of-self c =
    units_moved c.self.inside.places c.move_at.new.charges c.move_at.new.free c.self.inside.held.items c.move_at.new.units.items
    c.in-Some.at c.args.place c.move_at.result c.self.invariant.placed c.move_at.ensures.moved c.move_at.ensures.kept
    c.move_at.ensures.charged c.move_at.ensures.counted

pub returns-in-None : goal.returns-in-None
returns-in-None c = sym (c.in-None.ensures.changed (λ u. record u { place = c.args.place }))
