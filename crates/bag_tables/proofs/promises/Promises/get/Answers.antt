use Rattle.std.proofs.Common.{◌∙◌, sym, ap, find}
use Rattle.adlb_unit.specs.Ids.{same_unit}
use Rattle.bag_tables.proofs.Slots.{slot_found, slot_absent}
use Rattle.bag_tables.proofs.promises.Promises.get.Goals as goal

pub returns-in-Some : goal.returns-in-Some
returns-in-Some c =
    let slot = slot_found c.args.id c.self.inside.slots.items c.in-Some.at
    (sym (c.self.invariant.placed c.args.id) ∙ sym c.get.ensures ∙ c.in-Some.is) in
    c.index.ensures ∙ slot.here c.index.result.now ∙ ap (find (λ p. same_unit p.id c.args.id)) c.self.view_is

pub returns-in-None : goal.returns-in-None
returns-in-None c =
    sym (rw c.self.view_is at
    (slot_absent c.args.id c.self.inside.slots.items (sym (c.self.invariant.placed c.args.id) ∙ sym c.get.ensures ∙ c.in-None.is)))
