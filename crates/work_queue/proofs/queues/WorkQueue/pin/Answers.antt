use Rattle.std.proofs.Common.{◌≡◌, All, ap, arith, ◌∙◌, refl, subst, sym}
use Rattle.work_queue.proofs.Found.{found_at, only_found, place_in_order, placed, small_found}
use Rattle.work_queue.proofs.Lists.{pinned_from_free}
use Rattle.work_queue.proofs.Standing.{LeavesIndex, entry_is, entry_listed, free_found, stamp_within}
use Rattle.work_queue.proofs.Pinned.{sound_pinned, view_pinned}
use Rattle.work_queue.specs.Facts.{facts_of}
use Rattle.adlb_unit.specs.declared.names.UnitId.{UnitId}
use Rattle.work_queue.specs.inside.{queue_of}
use Rattle.work_queue.specs.inside.Units.{units_at}
use Rattle.work_queue.specs.Queue.{HasFree, HasPinned, HasUnit, Queue, id_of, with_pin}
use Rattle.work_queue.specs.declared.queues.WorkQueue.TheInside.{Inside}
use Rattle.work_queue.proofs.queues.WorkQueue.pin.Goals as goal

there : (w : Inside) (q : Queue) (id : UnitId) → queue_of w ≡ q → HasFree id q.units → HasUnit id (units_at w.slots w.order.items)
there w q id view has =
    let Free : Queue → Type 0 = λ x. HasFree id x.units in
    let free : HasFree id (units_at w.slots w.order.items) = subst Free (sym view) has in
    (free.0, free.1, free.2, free.3, free.4.0)

pub at-key-requires : goal.at-key-requires
at-key-requires c =
    let inside = place_in_order c.self.inside c.args.id c.place_of-place.result c.self.invariant
    (there c.self.inside c.args.self.now c.args.id c.self.view_is c.requires)
    (placed c.self.inside c.args.id c.place_of-place.result c.self.invariant c.place_of-place.ensures) in
    omega (arith, inside)

pub pin_at-requires-clause-small : goal.pin_at-requires-clause-small
pin_at-requires-clause-small c =
    let h = found_at c.self.inside c.args.id c.place_of-place.result c.at-key.result c.self.invariant
    (there c.self.inside c.args.self.now c.args.id c.self.view_is c.requires)
    (placed c.self.inside c.args.id c.place_of-place.result c.self.invariant c.place_of-place.ensures) c.at-key.ensures in
    rw h.1.found (small_found c.self.inside _ _ h.0 c.args.id c.self.invariant h.1)

pub invariant_of-self : goal.invariant_of-self
invariant_of-self c =
    let h = found_at c.self.inside c.args.id c.place_of-place.result c.at-key.result c.self.invariant
    (there c.self.inside c.args.self.now c.args.id c.self.view_is c.requires)
    (placed c.self.inside c.args.id c.place_of-place.result c.self.invariant c.place_of-place.ensures) c.at-key.ensures in
    let Free : Queue → Type 0 = λ q. HasFree c.args.id q.units in
    let free = free_found c.self.inside _ _ h.0 c.args.id c.self.invariant h.1 (subst Free (sym c.self.view_is) c.requires) in
    let is = entry_is c.self.inside _ _ h.0 c.args.id c.self.invariant h.1 _ _ (c.entry_under-entry.ensures h.0 h.1.found) c.at.ensures in
    let leaves : LeavesIndex c.self.inside c.place_of-place.result h.0 c.leave.new.self = record {
      left = rw is at c.leave.ensures.entries;
      gone = rw is at c.leave.ensures.gone;
      in_order = c.leave.ensures.order;
      stamps = c.leave.ensures.stamps;
      fewer = c.leave.ensures.entries_len;
      same = c.leave.ensures.entries_same;
    } in
    rw (c.pin_at.ensures.pinned h.0 h.1.found)
    (sound_pinned c.self.inside _ _ h.0 c.args.id c.args.rank c.leave.new.self c.self.invariant h.1 free leaves)

pub returns-clause-pinned : goal.returns-clause-pinned
returns-clause-pinned c =
    let h = found_at c.self.inside c.args.id c.place_of-place.result c.at-key.result c.self.invariant
    (there c.self.inside c.args.self.now c.args.id c.self.view_is c.requires)
    (placed c.self.inside c.args.id c.place_of-place.result c.self.invariant c.place_of-place.ensures) c.at-key.ensures in
    rw (c.pin_at.ensures.pinned h.0 h.1.found)
    (view_pinned c.self.inside _ _ h.0 c.args.id c.args.rank c.leave.new.self c.self.invariant h.1
    ∙ ap (λ q. with_pin q c.args.id c.args.rank) c.self.view_is)

pub returns-clause-facts : goal.returns-clause-facts
returns-clause-facts c =
    let h = found_at c.self.inside c.args.id c.place_of-place.result c.at-key.result c.self.invariant
    (there c.self.inside c.args.self.now c.args.id c.self.view_is c.requires)
    (placed c.self.inside c.args.id c.place_of-place.result c.self.invariant c.place_of-place.ensures) c.at-key.ensures in
    let Told : Queue → Type 0 = λ q. All (λ p. id_of p ≡ c.args.id → c.pin_at.result ≡ facts_of p) q.units in
    subst Told c.self.view_is
    (λ k d within same. rw (only_found c.self.inside _ _ h.0 c.args.id c.self.invariant h.1 k d within same)
    (c.pin_at.ensures.facts h.0 h.1.found))

pub returns-clause-held : goal.returns-clause-held
returns-clause-held c =
    let Held : Queue → Type 0 = λ q. HasPinned c.args.id c.args.rank q.units in
    subst Held (sym (returns-clause-pinned c)) (pinned_from_free c.args.id c.args.rank c.args.self.now.units c.requires)

pub at-requires : goal.at-requires
at-requires c =
    let h = found_at c.self.inside c.args.id c.place_of-place.result c.at-key.result c.self.invariant
    (there c.self.inside c.args.self.now c.args.id c.self.view_is c.requires)
    (placed c.self.inside c.args.id c.place_of-place.result c.self.invariant c.place_of-place.ensures) c.at-key.ensures in
    let within = stamp_within c.self.inside _ _ h.0 c.args.id c.self.invariant h.1 in
    omega (arith, within)

pub leave-requires-clause-there : goal.leave-requires-clause-there
leave-requires-clause-there c =
    let h = found_at c.self.inside c.args.id c.place_of-place.result c.at-key.result c.self.invariant
    (there c.self.inside c.args.self.now c.args.id c.self.view_is c.requires)
    (placed c.self.inside c.args.id c.place_of-place.result c.self.invariant c.place_of-place.ensures) c.at-key.ensures in
    let Free : Queue → Type 0 = λ q. HasFree c.args.id q.units in
    let free = free_found c.self.inside _ _ h.0 c.args.id c.self.invariant h.1 (subst Free (sym c.self.view_is) c.requires) in
    let is = entry_is c.self.inside _ _ h.0 c.args.id c.self.invariant h.1 _ _ (c.entry_under-entry.ensures h.0 h.1.found) c.at.ensures in
    entry_listed c.self.inside _ _ h.0 c.args.id c.self.invariant h.1 _ is free

pub pin_at-requires-clause-there : goal.pin_at-requires-clause-there
pin_at-requires-clause-there c =
    let h = found_at c.self.inside c.args.id c.place_of-place.result c.at-key.result c.self.invariant
    (there c.self.inside c.args.self.now c.args.id c.self.view_is c.requires)
    (placed c.self.inside c.args.id c.place_of-place.result c.self.invariant c.place_of-place.ensures) c.at-key.ensures in
    rw h.1.found refl

pub entry_under-entry-requires : goal.entry_under-entry-requires
entry_under-entry-requires c =
    let h = found_at c.self.inside c.args.id c.place_of-place.result c.at-key.result c.self.invariant
    (there c.self.inside c.args.self.now c.args.id c.self.view_is c.requires)
    (placed c.self.inside c.args.id c.place_of-place.result c.self.invariant c.place_of-place.ensures) c.at-key.ensures in
    rw h.1.found refl
