use Rattle.std.proofs.Common.{◌≡◌, List, get_or, set, Option, None, Some, ap, sym, subst, ◌∙◌}
use Rattle.std.specs.List.{AllPairs, slice_get}
use Rattle.std.proofs.lemmas.List.Quantifiers.{position-Some}
use Rattle.work_queue.specs.declared.placing.Placed.{Placed}
use Rattle.server_components.proofs.Outcomes.{asks_first, none_granted, note_now, one_now, read_one, some_gone, some_step}
use Rattle.server_components.proofs.Places.{AreApart, at_place, nobody, of_tells, set_turned, some_at}
use Rattle.server_components.proofs.Sound.{first_other}
use Rattle.server_components.specs.Calls.{after_none, asks_next, step_for}
use Rattle.server_components.specs.Grants.{best_for, with_grant}
use Rattle.server_components.specs.inside.Reserving.{parked_of}
use Rattle.server_components.specs.Parked.{IsParked, ParkedModel, is_asked, is_of, with_waiting}
use Rattle.server_components.specs.declared.waits.Waiting.{Waiting}
use Rattle.server_components.proofs.parking.Parked.remote_none.Goals as goal

pub at-requires : goal.at-requires
at-requires c =
    (position-Some (is_of c.args.rank) c.args.self.now.parked.waiting c.in-Some.place (nobody c.args.rank)
    (sym c.place_of.ensures ∙ c.in-Some.is)).0

pub unreachable-requires : goal.unreachable-requires
unreachable-requires c =
    some_at (is_of c.args.rank) is_asked c.args.self.now.parked.waiting c.requires (sym c.place_of.ensures ∙ c.in_default.is)

-- A unit was granted.

pub returns-in-Some-grant-clause-step : goal.returns-in-Some-grant-clause-step
returns-in-Some-grant-clause-step c = λ e here.
    let m = c.args.self.now in
    let i = parked_of c.self.inside in
    let read = c.at.result.now in
    let same = one_now m c.args.rank c.in-Some.place read e (sym c.place_of.ensures ∙ c.in-Some.is) c.at.ensures here in
    let note = note_now i m c.self.view_is c.args.queue.now c.args.rank read e same
    (Some c.in-Some-grant.note) c.in-Some-grant.ensures.note in
    some_step m.me (best_for c.args.queue.now c.args.rank e.wish.types) e.to_ask c.in-Some-grant.note note

pub returns-in-Some-grant-clause-parked : goal.returns-in-Some-grant-clause-parked
returns-in-Some-grant-clause-parked c = λ e here.
    let m = c.args.self.now in
    let i = parked_of c.self.inside in
    let read = c.at.result.now in
    let same = one_now m c.args.rank c.in-Some.place read e (sym c.place_of.ensures ∙ c.in-Some.is) c.at.ensures here in
    let note = note_now i m c.self.view_is c.args.queue.now c.args.rank read e same
    (Some c.in-Some-grant.note) c.in-Some-grant.ensures.note in
    c.leave.ensures ∙ some_gone m.me m c.args.rank (best_for c.args.queue.now c.args.rank e.wish.types) c.in-Some-grant.note note

pub returns-in-Some-grant-clause-queue : goal.returns-in-Some-grant-clause-queue
returns-in-Some-grant-clause-queue c = λ e here.
    let m = c.args.self.now in
    let same = one_now m c.args.rank c.in-Some.place c.at.result.now e (sym c.place_of.ensures
    ∙ c.in-Some.is) c.at.ensures here in
    c.grant.ensures.pinned ∙ ap (λ (x : Waiting). with_grant c.args.queue.now c.args.rank x.wish.types) same

-- None was.

pub returns-in-None-clause-step : goal.returns-in-None-clause-step
returns-in-None-clause-step c = λ e here.
    let m = c.args.self.now in
    let i = parked_of c.self.inside in
    let read = c.at.result.now in
    let found = sym c.place_of.ensures ∙ c.in-Some.is in
    let same = one_now m c.args.rank c.in-Some.place read e found c.at.ensures here in
    let note = note_now i m c.self.view_is c.args.queue.now c.args.rank read e same None c.in-None.ensures.note in
    let none = none_granted m.me (best_for c.args.queue.now c.args.rank e.wish.types) note in
    let once = subst (λ (n : ParkedModel). AllPairs AreApart n.parked.waiting) c.self.view_is c.self.invariant.sound.once in
    let at = at_place (is_of c.args.rank) c.args.rank (of_tells c.args.rank) m.parked.waiting once c.in-Some.place e found in
    let is : get_or m.parked.waiting c.in-Some.place e ≡ e = read_one m c.args.rank c.in-Some.place e found here in
    c.ask_next.ensures.step e (at.here ∙ ap (λ (x : Waiting). Some x) is)
    ∙ sym (ap (λ (o : Option Placed). step_for m.me o e.to_ask) none)

pub returns-in-None-clause-parked : goal.returns-in-None-clause-parked
returns-in-None-clause-parked c = λ e here.
    let m = c.args.self.now in
    let i = parked_of c.self.inside in
    let read = c.at.result.now in
    let found = sym c.place_of.ensures ∙ c.in-Some.is in
    let same = one_now m c.args.rank c.in-Some.place read e found c.at.ensures here in
    let note = note_now i m c.self.view_is c.args.queue.now c.args.rank read e same None c.in-None.ensures.note in
    let none = none_granted m.me (best_for c.args.queue.now c.args.rank e.wish.types) note in
    let once = subst (λ (n : ParkedModel). AllPairs AreApart n.parked.waiting) c.self.view_is c.self.invariant.sound.once in
    let at = at_place (is_of c.args.rank) c.args.rank (of_tells c.args.rank) m.parked.waiting once c.in-Some.place e found in
    let is : get_or m.parked.waiting c.in-Some.place e ≡ e = read_one m c.args.rank c.in-Some.place e found here in
    let f : Waiting → Waiting = asks_next in
    c.ask_next.ensures.asked e (at.here ∙ ap (λ (x : Waiting). Some x) is)
    ∙ ap (λ (x : Waiting). with_waiting m (set m.parked.waiting c.in-Some.place (f x))) (sym is)
    ∙ ap (λ (l : List Waiting). with_waiting m l)
    (set_turned (is_of c.args.rank) f m.parked.waiting c.in-Some.place (get_or m.parked.waiting c.in-Some.place e) at)
    ∙ sym (ap (λ (o : Option Placed). after_none m c.args.rank o) none)

pub returns-in-None-clause-ask : goal.returns-in-None-clause-ask
returns-in-None-clause-ask c = λ s is.
    let m = c.args.self.now in
    let sound = subst (λ (n : ParkedModel). IsParked n) c.self.view_is c.self.invariant.sound in
    let d = nobody c.args.rank in
    let at = at_place (is_of c.args.rank) c.args.rank (of_tells c.args.rank) m.parked.waiting sound.once c.in-Some.place d
    (sym c.place_of.ensures ∙ c.in-Some.is) in
    let e = get_or m.parked.waiting c.in-Some.place d in
    first_other m.config m.me e.to_ask (sound.each c.in-Some.place d at.within).to_ask s
    (asks_first (slice_get e.to_ask 0) s (sym (c.ask_next.ensures.step e at.here) ∙ is))

pub returns-in-None-clause-queue : goal.returns-in-None-clause-queue
returns-in-None-clause-queue c = λ e here.
    let m = c.args.self.now in
    let same = one_now m c.args.rank c.in-Some.place c.at.result.now e (sym c.place_of.ensures
    ∙ c.in-Some.is) c.at.ensures here in
    c.grant.ensures.pinned ∙ ap (λ (x : Waiting). with_grant c.args.queue.now c.args.rank x.wish.types) same
