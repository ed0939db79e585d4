use Rattle.std.proofs.Common.{arith}
use Rattle.bag_tables.proofs.PartsKept.{charge_fits, parts_added}
use Rattle.bag_tables.proofs.parts.Parts.add.Goals as goal

pub shift-requires-clause-room : goal.shift-requires-clause-room
shift-requires-clause-room c =
    charge_fits c.self.inside.charges c.self.inside.held.items c.len-n.result c.self.invariant.charged (omega arith) (omega arith)

pub invariant_of-self-2 : goal.invariant_of-self-2
invariant_of-self-2 c =
    rw (c.push_reserved.ensures.items, c.reserve.ensures.items)
    (parts_added c.self.inside.places c.note.new.self c.self.inside.charges c.shift.new.self c.self.inside.due c.recount-self-inside.result
    c.self.inside.held.items c.args.part c.len-at.result c.len-n.result c.self.invariant (omega arith) c.len-n.ensures (omega arith)
    c.in_ok-note.ensures.noted (rw c.kept_at-kept.ensures at c.shift.ensures) (rw c.is_due-due.ensures at c.recount-self-inside.ensures))
