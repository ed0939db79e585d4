use Rattle.bag_ledger.specs.declared.entries.Entry.TheVariants as enters
use Rattle.adlb_unit.specs.declared.messages.Message.TheVariants as tells
use Rattle.server_core.proofs.Prelude.{◌∙◌, None, Out, ServerModel, Some, ap, asked_goes, asked_room, made_as, posted, room_as, to_server}
use Rattle.server_core.proofs.Prelude.{told_home, wish_of, with_answer}
use Rattle.server_core.proofs.states.ServerState.ask_here.Goals as goal

pub returns-in-Some-clause-made : goal.returns-in-Some-clause-made
returns-in-Some-clause-made c q rule =
    let wish = wish_of c.args.rank c.args.request c.args.types.now in
    let letter = to_server c.args.from (tells.AskGrant wish.rank wish.request c.in-Some.note) in
    let entered : ServerModel → Out = λ u.
    with_answer c.args.out.now (posted c.pin_for.new.self letter) (enters.Granted u.me wish.rank wish.request c.in-Some.note.id) in
    made_as c.answer.ensures.counted (c.answer.ensures.told ∙ ap entered c.self.view_is)
    ∙ ap (told_home (Some c.in-Some.note) c.args.from wish c.args.out.now) c.pin_for.ensures.made
    ∙ asked_goes c.args.self.now c.args.out.now c.args.from wish (Some c.in-Some.note) c.in-Some.ensures.note q rule

pub returns-in-None-clause-made : goal.returns-in-None-clause-made
returns-in-None-clause-made c q rule =
    let wish = wish_of c.args.rank c.args.request c.args.types.now in
    made_as c.say.ensures.counted c.say.ensures.told ∙ ap (told_home None c.args.from wish c.args.out.now) c.pin_for.ensures.made
    ∙ asked_goes c.args.self.now c.args.out.now c.args.from wish None c.in-None.ensures.note q rule

pub returns-in-Some-clause-room : goal.returns-in-Some-clause-room
returns-in-Some-clause-room c =
    c.answer.ensures.room 1
    (room_as c.pin_for.ensures.made (asked_room (wish_of c.args.rank c.args.request c.args.types.now) c.requires.room))

pub returns-in-None-clause-room : goal.returns-in-None-clause-room
returns-in-None-clause-room c =
    c.say.ensures.room 1 (room_as c.pin_for.ensures.made (asked_room (wish_of c.args.rank c.args.request c.args.types.now) c.requires.room))
