use Rattle.server_core.proofs.Prelude.{◌∙◌, Option, Placed, ap, free_says, goes_nowhere, going_on, hint_all, is_some, made_as, none_takes}
use Rattle.server_core.proofs.Prelude.{one_takes, room_as, settles_none, sym, told_free, told_note, told_unfree}
use Rattle.server_core.proofs.states.ServerState.settle.Goals as goal

pub returns-in_default-clause-made : goal.returns-in_default-clause-made
returns-in_default-clause-made c =
    let none = settles_none c.args.id c.args.self.now (told_unfree _ (sym c.in_default.is ∙ c.free_unit.ensures)) in
    goes_nowhere c.args.out.now c.args.self.now ∙ ap (λ l. going_on c.args.out.now l c.args.self.now) (sym none)

pub offer-requires : goal.offer-requires
offer-requires c =
    (free_says c.args.id c.args.self.now.kept.queue.units).0 (ap (λ (o : Option Placed). is_some o) (told_free _ c.in-Some.ensures).1)

pub grant-requires-clause-rank : goal.grant-requires-clause-rank
grant-requires-clause-rank c =
    let p = told_free _ c.in-Some.ensures in
    let by = one_takes c.args.self.now c.args.out.now c.args.id p.0 p.1 c.offer.ensures.sound (c.in-Some-offer.ensures.given p.0 p.1) in
    rw (c.offer.ensures.made p.0 p.1) by.within

pub grant-requires-clause-places : goal.grant-requires-clause-places
grant-requires-clause-places c =
    let p = told_free _ c.in-Some.ensures in
    rw (c.offer.ensures.made p.0 p.1) c.requires.places

pub returns-in-Some-offer-clause-made : goal.returns-in-Some-offer-clause-made
returns-in-Some-offer-clause-made c =
    let p = told_free _ c.in-Some.ensures in
    let by = one_takes c.args.self.now c.args.out.now c.args.id p.0 p.1 c.offer.ensures.sound (c.in-Some-offer.ensures.given p.0 p.1) in
    made_as c.grant.ensures.counted c.grant.ensures.told
    ∙ ap (told_note c.in-Some-offer.rank c.in-Some-offer.request c.in-Some-offer.note c.args.out.now) (c.offer.ensures.made p.0 p.1)
    ∙ by.goes

pub returns-in-Some-offer-clause-room : goal.returns-in-Some-offer-clause-room
returns-in-Some-offer-clause-room c =
    let p = told_free _ c.in-Some.ensures in
    let by = one_takes c.args.self.now c.args.out.now c.args.id p.0 p.1 c.offer.ensures.sound (c.in-Some-offer.ensures.given p.0 p.1) in
    c.grant.ensures.room 2 (room_as (c.offer.ensures.made p.0 p.1) (by.room c.requires))

pub hint_homes-requires : goal.hint_homes-requires
hint_homes-requires c =
    let p = told_free _ c.in-Some.ensures in
    let none = none_takes c.args.self.now c.args.out.now c.args.id p.0 p.1 c.offer.ensures.sound (c.in-None.ensures.given p.0 p.1) in
    room_as (c.offer.ensures.made p.0 p.1 ∙ none.same) c.requires

pub returns-in-None-clause-made : goal.returns-in-None-clause-made
returns-in-None-clause-made c =
    let p = told_free _ c.in-Some.ensures in
    let none = none_takes c.args.self.now c.args.out.now c.args.id p.0 p.1 c.offer.ensures.sound (c.in-None.ensures.given p.0 p.1) in
    c.hint_homes.ensures.made p.0.unit p.2 p.3
    ∙ ap (λ w. going_on c.args.out.now (hint_all p.0.unit w.kept.parked.wishes) w) (c.offer.ensures.made p.0 p.1 ∙ none.same)
    ∙ ap (λ l. going_on c.args.out.now l c.args.self.now) (sym none.hints)
