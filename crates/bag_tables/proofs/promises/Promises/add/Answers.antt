use Rattle.std.proofs.Common.{◌∙◌, ◌++◌, ◌∷◌, [], List, arith, ap}
use Rattle.bag_ledger.specs.declared.states.Promise.{Promise}
use Rattle.bag_tables.proofs.Slots.{charge_fits, promises_added, promises_same, standing_push}
use Rattle.bag_tables.proofs.promises.Promises.add.Goals as goal

pub invariant_of-self-in_err-note : goal.invariant_of-self-in_err-note
invariant_of-self-in_err-note c =
    rw c.reserve.ensures.items
    (promises_same c.self.inside.places c.note.new.self c.self.inside.charges c.self.inside.slots.items c.self.invariant
    c.in_err-note.ensures.kept)

pub shift-requires-clause-room : goal.shift-requires-clause-room
shift-requires-clause-room c =
    charge_fits c.self.inside.charges c.self.inside.slots.items c.args.promise.length c.self.invariant.charged (omega arith) (omega arith)

pub invariant_of-self-2 : goal.invariant_of-self-2
invariant_of-self-2 c =
    rw (c.push_reserved.ensures.items, c.reserve.ensures.items)
    (promises_added c.self.inside.places c.note.new.self c.self.inside.charges c.shift.new.self c.self.inside.slots.items c.args.promise
    c.len-at.result c.self.invariant (rw c.self.view_is c.requires) (omega arith) (omega arith) c.in_ok-note.ensures.noted c.shift.ensures)

pub returns : goal.returns
returns c =
    rw (c.push_reserved.ensures.items, c.reserve.ensures.items)
    (standing_push c.self.inside.slots.items c.args.promise ∙ ap (λ (l : List Promise). l ++ c.args.promise ∷ []) c.self.view_is)
