use Rattle.server_core.proofs.Prelude.{hint_told, no_more}
use Rattle.server_core.proofs.states.ServerState.hint_next.Goals as goal

pub returns-in-Some-clause-told : goal.returns-in-Some-clause-told
returns-in-Some-clause-told c unit kind target =
    let all = hint_told c.args.self.now c.forget.ensures.sound c.args.kind c.args.target c.forget.ensures.made c.in-Some.ensures.wish in
    rw (c.tell_home.ensures.counted, c.tell_home.ensures.told) (all.goes unit kind target c.args.out.now)

pub returns-in-Some-clause-fewer : goal.returns-in-Some-clause-fewer
returns-in-Some-clause-fewer c is =
    let all = hint_told c.args.self.now c.forget.ensures.sound c.args.kind c.args.target c.forget.ensures.made c.in-Some.ensures.wish in
    rw c.tell_home.ensures.counted all.fewer

pub returns-in-Some-clause-room : goal.returns-in-Some-clause-room
returns-in-Some-clause-room c =
    let all = hint_told c.args.self.now c.forget.ensures.sound c.args.kind c.args.target c.forget.ensures.made c.in-Some.ensures.wish in
    c.tell_home.ensures.room 2 (all.room c.args.out.now c.requires)

pub returns-in-None-clause-last : goal.returns-in-None-clause-last
returns-in-None-clause-last c unit kind target is =
    no_more c.args.self.now c.forget.ensures.sound c.args.kind c.args.target c.forget.ensures.made c.in-None.ensures.wish unit kind target
