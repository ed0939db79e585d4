use Rattle.bag_ledger.specs.declared.entries.Entry.TheVariants as enters
use Rattle.adlb_unit.specs.declared.messages.Message.TheVariants as tells
use Rattle.server_core.proofs.Prelude.{◌+◌, ◌-◌, ◌∙◌, ap, arith, entered_room, exhausted_goes, room_less, said, stepped, sym, to_others}
use Rattle.server_core.proofs.states.ServerState.tell_step.Goals as goal

pub returns-in-Exhausted-clause-made : goal.returns-in-Exhausted-clause-made
returns-in-Exhausted-clause-made c =
    let s = c.args.self.now in
    let out = c.args.out.now in
    exhausted_goes s c.tell_others.new.self c.tell_all.new.self out c.tell_others.new.out c.tell_all.new.out
    (c.tell_others.ensures.told ∙ ap (λ o. said o (to_others s tells.Exhaust) s) c.enter.ensures) c.tell_all.ensures.made
    ∙ ap (λ k. stepped k out s) (sym c.in-Exhausted.is)

pub returns-in-Exhausted-clause-room : goal.returns-in-Exhausted-clause-room
returns-in-Exhausted-clause-room c more room =
    let s = c.args.self.now in
    let out = c.args.out.now in
    let entered = entered_room s out enters.Exhausted (s.config.servers - 1 + more)
    (room_less (rw c.in-Exhausted.is at room) (omega (arith, s.config.servers_within.0))) in
    c.tell_all.ensures.room more (c.tell_others.ensures.room more (rw c.enter.ensures entered))

pub returns-in-Shutdown-clause-room : goal.returns-in-Shutdown-clause-room
returns-in-Shutdown-clause-room c more room =
    c.tell_others-in-Shutdown.ensures.room more (room_less (rw c.in-Shutdown.is at room) (omega arith))
