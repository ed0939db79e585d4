use Rattle.server_core.proofs.Prelude.{end_told, nobody_idle}
use Rattle.server_core.proofs.states.ServerState.tell_next.Goals as goal

pub end_call-requires-clause-rank : goal.end_call-requires-clause-rank
end_call-requires-clause-rank c =
    (end_told c.args.self.now c.release_idle.ensures.sound c.release_idle.ensures.made c.in-Some.ensures.idle).within

pub returns-in-Some-clause-told : goal.returns-in-Some-clause-told
returns-in-Some-clause-told c =
    let all = end_told c.args.self.now c.release_idle.ensures.sound c.release_idle.ensures.made c.in-Some.ensures.idle in
    rw (c.end_call.ensures.counted, c.end_call.ensures.told) (all.goes c.args.end c.args.out.now)

pub returns-in-Some-clause-fewer : goal.returns-in-Some-clause-fewer
returns-in-Some-clause-fewer c is =
    let all = end_told c.args.self.now c.release_idle.ensures.sound c.release_idle.ensures.made c.in-Some.ensures.idle in
    rw c.end_call.ensures.counted all.fewer

pub returns-in-Some-clause-room : goal.returns-in-Some-clause-room
returns-in-Some-clause-room c more room =
    let all = end_told c.args.self.now c.release_idle.ensures.sound c.release_idle.ensures.made c.in-Some.ensures.idle in
    c.end_call.ensures.room more (all.room c.args.out.now more room)

pub returns-in-None-clause-last : goal.returns-in-None-clause-last
returns-in-None-clause-last c is =
    nobody_idle c.args.self.now c.release_idle.ensures.sound c.release_idle.ensures.made c.in-None.ensures.idle c.args.end
