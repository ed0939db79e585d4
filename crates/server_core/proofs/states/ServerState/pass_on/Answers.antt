use Rattle.server_core.proofs.Prelude.{◌∙◌, answered, ap, arith, made_as, pending_of, released_room, room_as, room_less, told_passed}
use Rattle.server_core.proofs.states.ServerState.pass_on.Goals as goal

pub release_granted-requires : goal.release_granted-requires
release_granted-requires c = pending_of c.args.self.now c.args.from c.args.rank c.args.request c.requires.awaited

pub say-requires-clause-actor : goal.say-requires-clause-actor
say-requires-clause-actor c =
    rw c.release_granted.ensures.made
    (answered c.args.self.now c.args.out.now c.args.from c.args.rank c.args.request c.release_granted.ensures.sound
    c.requires.awaited).within

pub returns-clause-made : goal.returns-clause-made
returns-clause-made c q rule =
    made_as c.say.ensures.counted c.say.ensures.told
    ∙ ap (told_passed c.args.rank c.args.request c.args.note c.args.out.now) c.release_granted.ensures.made
    ∙ (answered c.args.self.now c.args.out.now c.args.from c.args.rank c.args.request c.release_granted.ensures.sound
    c.requires.awaited).passes
    c.args.note q rule

pub returns-clause-room : goal.returns-clause-room
returns-clause-room c =
    room_less (c.say.ensures.room 2 (room_as c.release_granted.ensures.made (released_room c.args.rank c.requires.room))) (omega arith)
