use Rattle.std.proofs.Common.{◌∙◌, sym}
use Rattle.work_queue.proofs.Names.{nothing_kept, stamp_leads}
use Rattle.work_queue.proofs.naming.Names.place_of.Goals as goal

pub returns-in-Some : goal.returns-in-Some
returns-in-Some c units distinct named long = stamp_leads units c.args.stamps.now.items c.args.self.now c.args.id distinct named long
    c.in-Some.stamp.now c.place_of.result (sym c.in-Some.ensures.value) c.place_of.ensures

pub returns-in-None : goal.returns-in-None
returns-in-None c units distinct named long =
    c.len.ensures ∙ nothing_kept units c.args.stamps.now.items c.args.self.now c.args.id distinct named long (sym c.in-None.ensures.value)
