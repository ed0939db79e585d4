use Rattle.server_core.proofs.Prelude.{PushModel, ap, cancels_goes, moved_inside, refl, same_pins, sends_goes, state_of}
use Rattle.server_core.proofs.states.ServerState.hear_yes.Goals as goal

pub invariant_of-self : goal.invariant_of-self
invariant_of-self c =
    let is = rw (← c.self.view_is) at c.requires.awaited in
    moved_inside _ c.self.invariant (c.push_yes.ensures.stands c.args.from c.args.id is.0 is.1)
    (c.in-Go.ensures.sending c.args.from c.args.id is.0 is.1).3 (record { arrivals = refl; common = refl })

pub invariant_of-self-in-Cancel : goal.invariant_of-self-in-Cancel
invariant_of-self-in-Cancel c =
    let is = rw (← c.self.view_is) at c.requires.awaited in
    moved_inside _ c.self.invariant (c.push_yes.ensures.stands c.args.from c.args.id is.0 is.1)
    (c.in-Cancel.ensures.sending c.args.from c.args.id is.0 is.1).3 same_pins

pub returns-in-Go-clause-made : goal.returns-in-Go-clause-made
returns-in-Go-clause-made c =
    let is = rw (← c.self.view_is) at c.requires.awaited in
    let sent = c.in-Go.ensures.sending c.args.from c.args.id is.0 is.1 in
    let pushes = ap (λ (m : PushModel). m.pushing) (c.push_yes.ensures.stands c.args.from c.args.id is.0 is.1) in
    rw (← c.self.view_is)
    (sends_goes (state_of c.self.inside) c.args.out.now c.args.from c.args.id is.0 is.1 c.in-Go.unit sent.1 sent.2 sent.3 pushes
    c.answer.ensures.counted c.answer.ensures.told)

pub returns-in-Cancel-clause-made : goal.returns-in-Cancel-clause-made
returns-in-Cancel-clause-made c =
    let is = rw (← c.self.view_is) at c.requires.awaited in
    let sent = c.in-Cancel.ensures.sending c.args.from c.args.id is.0 is.1 in
    let pushes = ap (λ (m : PushModel). m.pushing) (c.push_yes.ensures.stands c.args.from c.args.id is.0 is.1) in
    rw (← c.self.view_is)
    (cancels_goes (state_of c.self.inside) c.args.out.now c.args.from c.args.id is.0 is.1 sent.2 sent.3 pushes
    c.say.ensures.counted c.say.ensures.told)
