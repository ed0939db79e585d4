use Rattle.std.proofs.Common.{arith}
use Rattle.flow_app.proofs.Finished.{settled_whole}
use Rattle.flow_app.proofs.Working.{given_right, noted_gives}
use Rattle.flow_app.proofs.stores.Store.work_one.Goals as goal

pub returns-in-None-clause-some : goal.returns-in-None-clause-some
returns-in-None-clause-some c =
    absurd (noted_gives c.args.flow.now c.args.self.now.values.items c.args.self.now.noted.items c.args.self.now.ready.items
    c.args.self.now.next
    c.args.place c.requires.stored.out.laid c.requires.inside c.requires.noted c.in-None.ensures)

pub returns-in_ok-settle-in-Some-clause-stored : goal.returns-in_ok-settle-in-Some-clause-stored
returns-in_ok-settle-in-Some-clause-stored c =
    let whole = c.requires.stored in
    let long = whole.out.laid.long in
    let done = c.in_ok-settle-in-Some.ensures in
    settled_whole c.args.flow.now c.args.self.now c.settle.new.self c.args.place c.in-Some.value whole done.laid
    (omega (arith, long, c.requires.inside)) c.requires.none
    (given_right c.args.flow.now c.args.self.now.values.items c.args.place c.in-Some.value whole.sound c.in-Some.ensures)
    done.values done.next done.grows
