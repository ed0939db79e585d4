use Rattle.std.proofs.Common.{◌≡◌, ◌∙◌, sym, ap, arith, filter, not, Some, None, Option, slice_index_or}
use Rattle.adlb_unit.specs.Ids.{same_unit}
use Rattle.bag_ledger.specs.declared.states.Promise.{Promise}
use Rattle.bag_tables.proofs.Changing.{set_changes}
use Rattle.bag_tables.proofs.Slots.{charge_fits, slot_found, slot_absent, absent_stays, promises_removed}
use Rattle.bag_tables.proofs.promises.Promises.remove.Goals as goal

pub returns-in_default : goal.returns-in_default
returns-in_default c =
    let none =
    slot_absent c.args.id c.self.inside.slots.items (sym (c.self.invariant.placed c.args.id) ∙ sym c.get.ensures ∙ c.in_default.is) in
    sym (rw c.self.view_is at (absent_stays c.args.id c.self.inside.slots.items none))

pub shift-requires-clause-room : goal.shift-requires-clause-room
shift-requires-clause-room c =
    charge_fits c.self.inside.charges c.self.inside.slots.items c.in-Some-index.promise.length c.self.invariant.charged
    (omega arith) (omega arith)

pub invariant_of-self : goal.invariant_of-self
invariant_of-self c =
    let slot = slot_found c.args.id c.self.inside.slots.items c.in-Some.at
    (sym (c.self.invariant.placed c.args.id) ∙ sym c.get.ensures ∙ c.in-Some.is) in
    let there : (d : Option Promise) → slice_index_or c.self.inside.slots.items c.in-Some.at d ≡ Some c.in-Some-index.promise =
    λ d. slot.here d ∙ sym (slot.here c.index.result.now) ∙ sym c.index.ensures ∙ c.in-Some-index.is in
    rw (set_changes c.self.inside.slots.items c.in-Some.at (λ slot. None) None slot.inside)
    (promises_removed c.self.inside.places c.forget.new.self c.self.inside.charges c.shift.new.self c.self.inside.slots.items c.args.id
    c.in-Some.at c.in-Some-index.promise c.self.invariant slot there c.forget.ensures c.shift.ensures)

pub returns-in-Some-index : goal.returns-in-Some-index
returns-in-Some-index c =
    let slot = slot_found c.args.id c.self.inside.slots.items c.in-Some.at
    (sym (c.self.invariant.placed c.args.id) ∙ sym c.get.ensures ∙ c.in-Some.is) in
    rw (set_changes c.self.inside.slots.items c.in-Some.at (λ slot. None) None slot.inside)
    (slot.gone (c.self.invariant.alone c.args.id) ∙ ap (filter (λ p. not (same_unit p.id c.args.id))) c.self.view_is)

pub returns-in_default-index : goal.returns-in_default-index
returns-in_default-index c =
    let slot = slot_found c.args.id c.self.inside.slots.items c.in-Some.at
    (sym (c.self.invariant.placed c.args.id) ∙ sym c.get.ensures ∙ c.in-Some.is) in
    sym (rw c.self.view_is at
    (absent_stays c.args.id c.self.inside.slots.items (sym (slot.here c.index.result.now) ∙ sym c.index.ensures ∙ c.in_default-index.is)))
