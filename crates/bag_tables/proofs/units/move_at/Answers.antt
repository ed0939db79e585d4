use Rattle.std.proofs.Common.{sym, arith}
use Rattle.bag_tables.proofs.UnitsKept.{charge_fits, charge_moved, count_fits, count_moved}
use Rattle.bag_tables.proofs.units.move_at.Goals as goal

pub shift-requires-clause-room : goal.shift-requires-clause-room
shift-requires-clause-room c = count_fits c.args.free.now c.args.units.now.items c.requires.counted (omega arith)

pub shift-requires-2-clause-room : goal.shift-requires-2-clause-room
shift-requires-2-clause-room c =
    charge_fits c.args.charges.now c.args.units.now.items c.len-n.result c.requires.charged (omega arith) (omega arith)

pub returns-clause-charged : goal.returns-clause-charged
returns-clause-charged c =
    rw c.put_at.ensures
    (charge_moved c.args.charges.now c.shift-2.new.self c.args.units.now.items c.args.at c.index-unit.result.now c.args.place c.len-n.result
    c.requires.charged c.requires.inside (sym c.index-unit.ensures) c.len-n.ensures
    (λ k within. rw (c.held_at.ensures, c.held_at-2.ensures) at (c.shift-2.ensures k within)))

pub returns-clause-counted : goal.returns-clause-counted
returns-clause-counted c =
    rw c.put_at.ensures
    (count_moved c.args.free.now c.shift.new.self c.args.units.now.items c.args.at c.index-unit.result.now c.args.place c.requires.counted
    c.requires.inside (sym c.index-unit.ensures)
    (rw (c.free_server-old_server.ensures, c.free_server-new_server.ensures) at c.in_ok-shift.ensures.shifted))
