use Rattle.std.proofs.Common.{arith}
use Rattle.bag_tables.proofs.UnitsKept.{charge_fits, count_fits, units_added}
use Rattle.bag_tables.proofs.units.Units.add.Goals as goal

pub raise-requires-clause-room : goal.raise-requires-clause-room
raise-requires-clause-room c = count_fits c.self.inside.free c.self.inside.held.items c.self.invariant.counted (omega arith)

pub shift-requires-clause-room : goal.shift-requires-clause-room
shift-requires-clause-room c =
    charge_fits c.self.inside.charges c.self.inside.held.items c.len-n.result c.self.invariant.charged (omega arith) (omega arith)

pub invariant_of-self-2 : goal.invariant_of-self-2
invariant_of-self-2 c =
    rw (c.push_reserved.ensures.items, c.reserve.ensures.items)
    (units_added c.self.inside.places c.note.new.self c.self.inside.charges c.shift.new.self c.self.inside.free c.raise.new.self
    c.self.inside.held.items c.args.unit c.args.server c.len-at.result c.len-n.result c.self.invariant (omega arith) c.len-n.ensures
    (omega arith) c.in_default.ensures.noted c.shift.ensures c.in_ok-raise.ensures.raised)
