use Rattle.std.proofs.Common.{◌≡◌, ◌-◌, All, ap, arith, ◌∙◌, length, refl, subst, sym}
use Rattle.work_queue.proofs.Found.{found_at, only_found, place_in_order, placed}
use Rattle.work_queue.proofs.Standing.{ForgetsUnit, LosesName, entry_if_free, stamp_within, tells_entry}
use Rattle.work_queue.proofs.Taken.{size_within, sound_taken, view_taken}
use Rattle.std.proofs.lemmas.Bool.{false≢true}
use Rattle.adlb_unit.specs.declared.names.UnitId.{UnitId}
use Rattle.work_queue.specs.inside.{queue_of}
use Rattle.work_queue.specs.inside.Units.{units_at}
use Rattle.work_queue.specs.Queue.{HasUnit, Queue, id_of, without}
use Rattle.work_queue.specs.declared.queues.WorkQueue.TheInside.{Inside}
use Rattle.work_queue.proofs.queues.WorkQueue.take_out.Goals as goal

there : (w : Inside) (q : Queue) (id : UnitId) → queue_of w ≡ q → HasUnit id q.units → HasUnit id (units_at w.slots w.order.items)
there w q id view has =
    let Has : Queue → Type 0 = λ x. HasUnit id x.units in
    subst Has (sym view) has

pub unreachable-requires : goal.unreachable-requires
unreachable-requires c =
    let inside = place_in_order c.self.inside c.args.id c.place_of-place.result c.self.invariant
    (there c.self.inside c.args.self.now c.args.id c.self.view_is c.requires)
    (placed c.self.inside c.args.id c.place_of-place.result c.self.invariant c.place_of-place.ensures) in
    false≢true (c.in_default.ensures.variant.1 (omega (arith, inside)))

pub overflow_sub-self : goal.overflow_sub-self
overflow_sub-self c =
    let h = found_at c.self.inside c.args.id c.place_of-place.result c.in-Some.key c.self.invariant
    (there c.self.inside c.args.self.now c.args.id c.self.view_is c.requires)
    (placed c.self.inside c.args.id c.place_of-place.result c.self.invariant c.place_of-place.ensures) c.in-Some.ensures.value in
    let e = c.len.ensures ∙ ap (λ u. length u.body) (c.take_at-unit.ensures.unit h.0 h.1.found) in
    rw e (size_within c.self.inside _ _ _ h.0 c.args.id c.self.invariant h.1 c.take_at-unit.ensures.taken)

pub invariant_of-self : goal.invariant_of-self
invariant_of-self c =
    let h = found_at c.self.inside c.args.id c.place_of-place.result c.in-Some.key c.self.invariant
    (there c.self.inside c.args.self.now c.args.id c.self.view_is c.requires)
    (placed c.self.inside c.args.id c.place_of-place.result c.self.invariant c.place_of-place.ensures) c.in-Some.ensures.value in
    let e = c.len.ensures ∙ ap (λ u. length u.body) (c.take_at-unit.ensures.unit h.0 h.1.found) in
    let tells = tells_entry c.self.inside _ _ h.0 c.args.id c.self.invariant h.1 _ _ c.at-stamp.ensures
    (c.free_entry-entry.ensures.free h.0 h.1.found) (λ rank. c.free_entry-entry.ensures.pinned h.0 rank h.1.found) in
    let forgets : ForgetsUnit c.self.inside c.place_of-place.result h.0 c.forget.new.self = record {
      kept = λ rank pinned. rw (tells.none rank pinned) at c.forget.ensures.kept;
      left = λ free. rw (tells.some free) at c.forget.ensures.left;
      gone = λ free. rw (tells.some free) at c.forget.ensures.gone;
      in_order = c.forget.ensures.order;
      stamps = c.forget.ensures.stamps;
      fewer = c.forget.ensures.entries_len;
      same = c.forget.ensures.entries_same;
      stamps_fewer = c.forget.ensures.stamps_len;
      stamps_same = c.forget.ensures.stamps_same;
    } in
    let loses : LosesName c.self.inside c.args.id c.remove-2.new.self =
    record { less = c.remove-2.ensures.names; room = c.remove-2.ensures.room } in
    sound_taken c.self.inside _ _ _ h.0 c.args.id c.self.invariant h.1 c.take_at-unit.ensures.taken _ refl c.in-Some.ensures.items
    (ap (λ n. c.self.inside.charge - n) e) refl refl refl
    c.take_at-unit.ensures.len c.take_at-unit.ensures.capacity c.in-Some.ensures.len c.remove.ensures.capacity refl forgets loses

pub returns-clause-taken : goal.returns-clause-taken
returns-clause-taken c =
    let h = found_at c.self.inside c.args.id c.place_of-place.result c.in-Some.key c.self.invariant
    (there c.self.inside c.args.self.now c.args.id c.self.view_is c.requires)
    (placed c.self.inside c.args.id c.place_of-place.result c.self.invariant c.place_of-place.ensures) c.in-Some.ensures.value in
    view_taken c.self.inside _ _ _ h.0 c.args.id c.self.invariant h.1 c.take_at-unit.ensures.taken
    (record {
      slots = c.take_at-unit.new.slots;
      order = c.remove.new.self;
      index = c.forget.new.self;
      names = c.remove-2.new.self;
      rooms = c.self.inside.rooms;
      common = c.self.inside.common;
      charge = c.self.inside.charge - c.len.result;
      arrivals = c.self.inside.arrivals;
      limit = c.self.inside.limit;
    }) refl c.in-Some.ensures.items refl refl refl refl
    ∙ ap (λ q. without q c.args.id) c.self.view_is

pub returns-clause-unit : goal.returns-clause-unit
returns-clause-unit c =
    let h = found_at c.self.inside c.args.id c.place_of-place.result c.in-Some.key c.self.invariant
    (there c.self.inside c.args.self.now c.args.id c.self.view_is c.requires)
    (placed c.self.inside c.args.id c.place_of-place.result c.self.invariant c.place_of-place.ensures) c.in-Some.ensures.value in
    let Told : Queue → Type 0 = λ q. All (λ p. id_of p ≡ c.args.id → c.take_at-unit.result ≡ p.unit) q.units in
    subst Told c.self.view_is
    (λ k d within same. rw (only_found c.self.inside _ _ h.0 c.args.id c.self.invariant h.1 k d within same)
    (c.take_at-unit.ensures.unit h.0 h.1.found))

pub at-stamp-requires : goal.at-stamp-requires
at-stamp-requires c =
    let h = found_at c.self.inside c.args.id c.place_of-place.result c.in-Some.key c.self.invariant
    (there c.self.inside c.args.self.now c.args.id c.self.view_is c.requires)
    (placed c.self.inside c.args.id c.place_of-place.result c.self.invariant c.place_of-place.ensures) c.in-Some.ensures.value in
    let within = stamp_within c.self.inside _ _ h.0 c.args.id c.self.invariant h.1 in
    omega (arith, within)

pub forget-requires-clause-within : goal.forget-requires-clause-within
forget-requires-clause-within c =
    let h = found_at c.self.inside c.args.id c.place_of-place.result c.in-Some.key c.self.invariant
    (there c.self.inside c.args.self.now c.args.id c.self.view_is c.requires)
    (placed c.self.inside c.args.id c.place_of-place.result c.self.invariant c.place_of-place.ensures) c.in-Some.ensures.value in
    stamp_within c.self.inside _ _ h.0 c.args.id c.self.invariant h.1

pub forget-requires-clause-there : goal.forget-requires-clause-there
forget-requires-clause-there c =
    let h = found_at c.self.inside c.args.id c.place_of-place.result c.in-Some.key c.self.invariant
    (there c.self.inside c.args.self.now c.args.id c.self.view_is c.requires)
    (placed c.self.inside c.args.id c.place_of-place.result c.self.invariant c.place_of-place.ensures) c.in-Some.ensures.value in
    let tells = tells_entry c.self.inside _ _ h.0 c.args.id c.self.invariant h.1 _ _ c.at-stamp.ensures
    (c.free_entry-entry.ensures.free h.0 h.1.found) (λ rank. c.free_entry-entry.ensures.pinned h.0 rank h.1.found) in
    entry_if_free c.self.inside _ _ h.0 c.args.id c.self.invariant h.1 _ tells

pub take_at-unit-requires : goal.take_at-unit-requires
take_at-unit-requires c =
    let h = found_at c.self.inside c.args.id c.place_of-place.result c.in-Some.key c.self.invariant
    (there c.self.inside c.args.self.now c.args.id c.self.view_is c.requires)
    (placed c.self.inside c.args.id c.place_of-place.result c.self.invariant c.place_of-place.ensures) c.in-Some.ensures.value in
    rw h.1.found refl
