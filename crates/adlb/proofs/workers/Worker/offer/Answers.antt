use Rattle.std.proofs.Common.{ap, arith, ◌∙◌}
use Rattle.adlb_rank.specs.declared.replies.Reply.TheVariants.{Accepted, Ended, Rejected}
use Rattle.adlb.proofs.Steps.{offered, replied, stopped_now, worked_here}
use Rattle.adlb.proofs.workers.Worker.offer.Goals as goal

pub returns-in-Accepted-clause-passes : goal.returns-in-Accepted-clause-passes
returns-in-Accepted-clause-passes g c = λ eye begin more going.
    offered _ _ _ _ _ _ _ _ _ c.args.unit.now c.aim-aim.ensures.aims _ _
    (replied _ _ _ _ _ _ c.args.unit.now _ Accepted c.in_ok-put.ensures.made.said c.in-Ok.ensures c.in-Accepted.is) going

pub returns-in-Ok-work-clause-passes : goal.returns-in-Ok-work-clause-passes
returns-in-Ok-work-clause-passes g c = λ eye begin more going.
    let same = ap (λ u. g.D.Duty.worth c.args.self.now.duty eye c.shared_part.result.now u) c.bytes-in-Rejected.ensures
    ∙ ap (λ s. g.D.Duty.worth c.args.self.now.duty eye s c.args.unit.now) c.shared_part.ensures in
    worked_here _ _ _ _ _ _ _ _ _ c.args.unit.now c.aim-aim.ensures.aims _ _ _ _
    (replied _ _ _ _ _ _ c.args.unit.now _ Rejected c.in_ok-put.ensures.made.said c.in-Ok.ensures c.in-Rejected.is) going
    (omega (arith, c.in-Ok-work.ensures.work eye, same)) (c.in-Ok-work.ensures.few eye)

pub returns-in-Ended-clause-passes : goal.returns-in-Ended-clause-passes
returns-in-Ended-clause-passes g c = λ eye begin more going.
    stopped_now _ _ _ _ _ _ _ _ _ c.args.unit.now c.aim-aim.ensures.aims _ _ c.in-Ended.field-0
    (replied _ _ _ _ _ _ c.args.unit.now _ (Ended c.in-Ended.field-0) c.in_ok-put.ensures.made.said c.in-Ok.ensures c.in-Ended.is)
    going (g.met.R.Rank.short c.args.link.now)
