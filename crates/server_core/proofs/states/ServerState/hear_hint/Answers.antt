use Rattle.server_core.proofs.Prelude.{◌∙◌, ap, arith, heard, heard_room, hears, made_as, room_as, room_less, sym, told_ask, waits_by}
use Rattle.server_core.proofs.states.ServerState.hear_hint.Goals as goal

pub ask-requires-clause-waits : goal.ask-requires-clause-waits
ask-requires-clause-waits c =
    let all = hears c.args.self.now c.args.out.now c.args.from c.hear_of.ensures.sound c.requires.other c.args.rank c.args.request
    c.requires.here in
    let e = all.asks (sym c.hear_of.ensures.idle ∙ c.if-hear_of.true) in
    rw c.hear_of.ensures.made (waits_by (heard c.args.self.now c.args.rank c.args.request c.args.from) c.args.rank e.0 e.1)

pub returns-then-hear_of-clause-made : goal.returns-then-hear_of-clause-made
returns-then-hear_of-clause-made c q rule =
    let all = hears c.args.self.now c.args.out.now c.args.from c.hear_of.ensures.sound c.requires.other c.args.rank c.args.request
    c.requires.here in
    let e = all.asks (sym c.hear_of.ensures.idle ∙ c.if-hear_of.true) in
    made_as c.ask.ensures.counted (c.ask.ensures.told e.0 (rw c.hear_of.ensures.made e.1))
    ∙ ap (told_ask c.args.from c.args.rank c.args.request e.0.wish.types c.args.out.now) c.hear_of.ensures.made ∙ e.2 q rule

pub returns-then-hear_of-clause-room : goal.returns-then-hear_of-clause-room
returns-then-hear_of-clause-room c =
    let left = room_as c.hear_of.ensures.made (heard_room c.args.rank c.args.request c.args.from c.requires.room) in
    room_less (c.ask.ensures.room 2 left) (omega arith)

pub returns-else-hear_of-clause-made : goal.returns-else-hear_of-clause-made
returns-else-hear_of-clause-made c q rule =
    let all = hears c.args.self.now c.args.out.now c.args.from c.hear_of.ensures.sound c.requires.other c.args.rank c.args.request
    c.requires.here in
    rw c.hear_of.ensures.made (all.waits (sym c.hear_of.ensures.idle ∙ c.if-hear_of.false) q rule)

pub returns-else-hear_of-clause-room : goal.returns-else-hear_of-clause-room
returns-else-hear_of-clause-room c =
    room_less (room_as c.hear_of.ensures.made (heard_room c.args.rank c.args.request c.args.from c.requires.room)) (omega arith)
