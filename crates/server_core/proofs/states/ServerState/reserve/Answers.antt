use Rattle.server_core.proofs.Prelude.{◌∙◌, ap, asking, best_for, made_as, new_here, others, reserves, room_as, sought, sought_room}
use Rattle.server_core.proofs.Prelude.{step_for, sym, told_step, waits_by, wish_of}
use Rattle.server_core.proofs.states.ServerState.reserve.Goals as goal

pub returns-in-Some-clause-made : goal.returns-in-Some-clause-made
returns-in-Some-clause-made c q rule =
    made_as c.end_call.ensures.counted c.end_call.ensures.told
    ∙ (reserves c.args.self.now c.args.out.now (wish_of c.args.from c.args.request c.args.types.now) c.requires.awaited).ends c.in-Some.end
    (sym c.in-Some.ensures) q rule

pub seek-step-requires-clause-new : goal.seek-step-requires-clause-new
seek-step-requires-clause-new c = new_here c.requires.awaited.1

pub tell_sought-requires-clause-asked : goal.tell_sought-requires-clause-asked
tell_sought-requires-clause-asked c to is =
    let wish = wish_of c.args.from c.args.request c.args.types.now in
    let asks = (reserves c.args.self.now c.args.out.now wish c.requires.awaited).asks to (sym is ∙ c.seek-step.ensures.step) in
    rw c.seek-step.ensures.made ((c.seek-step.ensures.ask to is).0, waits_by (sought c.args.self.now wish) c.args.from _ asks)

pub tell_sought-requires-clause-room : goal.tell_sought-requires-clause-room
tell_sought-requires-clause-room c =
    room_as c.seek-step.ensures.made (sought_room (wish_of c.args.from c.args.request c.args.types.now) c.requires.room)

pub returns-in-None-clause-made : goal.returns-in-None-clause-made
returns-in-None-clause-made c q rule =
    let wish = wish_of c.args.from c.args.request c.args.types.now in
    let all = reserves c.args.self.now c.args.out.now wish c.requires.awaited in
    let step = c.seek-step.ensures.step in
    let told = c.tell_sought.ensures.made (asking wish (others c.args.self.now.config c.args.self.now.me))
    (λ to is. rw c.seek-step.ensures.made (all.asks to (sym is ∙ step))) in
    let s = c.args.self.now in
    told ∙ ap (λ k. told_step k wish.rank wish.request wish.types c.args.out.now c.seek-step.new.self) step
    ∙ ap (told_step (step_for s.me (best_for s.kept.queue wish.rank wish.types) (others s.config s.me)) wish.rank wish.request wish.types
    c.args.out.now) c.seek-step.ensures.made ∙ all.steps (sym c.in-None.ensures) q rule
