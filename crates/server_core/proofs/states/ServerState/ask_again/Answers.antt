use Rattle.server_core.proofs.Prelude.{◌∙◌, Answered, IsParked, answered, ap, arith, asks_next, best_for, looked, looked_room, made_as}
use Rattle.server_core.proofs.Prelude.{parked_of, pending_of, released_room, room_as, room_less, step_for, sym, told_end, told_step}
use Rattle.server_core.proofs.Prelude.{waits_by}
use Rattle.server_core.proofs.states.ServerState.ask_again.Goals as goal
use Rattle.server_core.proofs.states.ServerState.ask_again.Goals.{Start}

pub release-requires : goal.release-requires
release-requires c = pending_of c.args.self.now c.args.from c.args.rank c.args.request c.requires.awaited

pub look_again-step-requires : goal.look_again-step-requires
look_again-step-requires c = pending_of c.args.self.now c.args.from c.args.rank c.args.request c.requires.awaited

-- what comes of the answer
known : (c : Start) → IsParked (parked_of c.args.self.now) → Answered c.args.self.now c.args.out.now c.args.from c.args.rank c.args.request
known c sound = answered c.args.self.now c.args.out.now c.args.from c.args.rank c.args.request sound c.requires.awaited

pub end_call-requires-clause-rank : goal.end_call-requires-clause-rank
end_call-requires-clause-rank c =
    rw c.release.ensures.made (known (goal.at.end_call-requires-clause-rank c).Start c.release.ensures.sound).within

pub returns-in-Some-clause-made : goal.returns-in-Some-clause-made
returns-in-Some-clause-made c q rule =
    made_as c.end_call.ensures.counted c.end_call.ensures.told
    ∙ ap (told_end c.args.rank c.args.request c.in-Some.end c.args.out.now) c.release.ensures.made
    ∙ (known (goal.at.returns-in-Some-clause-made c).Start c.release.ensures.sound).ends c.in-Some.end (sym c.in-Some.ensures) q rule

pub returns-in-Some-clause-room : goal.returns-in-Some-clause-room
returns-in-Some-clause-room c =
    room_less (c.end_call.ensures.room 2 (room_as c.release.ensures.made (released_room c.args.rank c.requires.room))) (omega arith)

pub tell_sought-requires-clause-rank : goal.tell_sought-requires-clause-rank
tell_sought-requires-clause-rank c =
    let all = known (goal.at.tell_sought-requires-clause-rank c).Start c.look_again-step.ensures.sound in
    rw (c.look_again-step.ensures.made all.here all.found) all.within

pub tell_sought-requires-clause-asked : goal.tell_sought-requires-clause-asked
tell_sought-requires-clause-asked c to is =
    let all = known (goal.at.tell_sought-requires-clause-asked c).Start c.look_again-step.ensures.sound in
    let asked = all.asks to (sym is ∙ c.look_again-step.ensures.step all.here all.found) in
    rw (c.look_again-step.ensures.made all.here all.found)
    ((c.look_again-step.ensures.ask to is).0, waits_by (looked c.args.self.now c.args.rank all.here.wish.types) c.args.rank _ asked)

pub tell_sought-requires-clause-room : goal.tell_sought-requires-clause-room
tell_sought-requires-clause-room c =
    let all = known (goal.at.tell_sought-requires-clause-room c).Start c.look_again-step.ensures.sound in
    room_as (c.look_again-step.ensures.made all.here all.found)
    (looked_room c.args.rank all.here.wish.types (room_less c.requires.room (omega arith)))

pub returns-in-None-clause-made : goal.returns-in-None-clause-made
returns-in-None-clause-made c q rule =
    let all = known (goal.at.returns-in-None-clause-made c).Start c.look_again-step.ensures.sound in
    let step = c.look_again-step.ensures.step all.here all.found in
    let made = c.look_again-step.ensures.made all.here all.found in
    let told = c.tell_sought.ensures.made (asks_next all.here) (λ to is. rw made (all.asks to (sym is ∙ step))) in
    told ∙ ap (λ k. told_step k c.args.rank c.args.request all.here.wish.types c.args.out.now c.look_again-step.new.self) step
    ∙ ap (told_step (step_for c.args.self.now.me (best_for c.args.self.now.kept.queue c.args.rank all.here.wish.types) all.here.to_ask)
    c.args.rank c.args.request all.here.wish.types c.args.out.now) made ∙ all.steps (sym c.in-None.ensures) q rule
