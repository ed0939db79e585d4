use Rattle.std.proofs.Common.{rules, ◌∙◌, ap, arith, sum_by}
use Rattle.adlb_rank.specs.declared.replies.Reply.TheVariants.{Accepted, Ended, Rejected}
use Rattle.adlb.specs.Worked.{shared_bytes}
use Rattle.adlb.proofs.Steps.{begun, closed, last_worth, opened, refused, shut}
use Rattle.adlb.proofs.workers.Worker.share.Goals as goal

pub fill-requires-clause-going : goal.fill-requires-clause-going
fill-requires-clause-going g c = λ eye.
    begun _ _ _ c.args.common.now _ _ _ _ c.requires.some
    (opened _ _ _ (shared_bytes c.args.common.now) _ Accepted c.in_ok-begin_batch.ensures.made.said c.in-Ok.ensures c.in-Accepted.is)
    (c.tries.invariant.going eye)

pub returns-in-Accepted-clause-passes : goal.returns-in-Accepted-clause-passes
returns-in-Accepted-clause-passes g c = λ eye.
    closed _ _ _ c.args.common.now _ _ _ _ c.in_ok-done-in-Accepted.done c.requires.some c.in_ok-end_batch-in-Accepted.ensures.made.said
    (c.in_ok-done-in-Accepted.ensures.passes eye)

pub returns-in_default-pop-clause-passes : goal.returns-in_default-pop-clause-passes
returns-in_default-pop-clause-passes g c = λ eye.
    let none =
    ap (λ l. sum_by (g.D.Duty.worth c.args.self.now.duty eye (shared_bytes c.args.common.now)) l) c.in_default-pop.ensures.last.0 in
    refused _ _ _ (shared_bytes c.args.common.now) _ _ _ _ _ _
    (opened _ _ _ (shared_bytes c.args.common.now) _ Rejected c.in_ok-begin_batch.ensures.made.said c.in-Ok.ensures c.in-Rejected.is)
    (c.tries.invariant.going eye) (omega (arith, none)) (omega arith)

pub tries-preserved : goal.tries-preserved
tries-preserved g c = record {
  going = λ eye.
      let f = g.D.Duty.worth c.args.self.now.duty eye (shared_bytes c.args.common.now) in
      let sum = last_worth f c.tries.units c.pop.new.self c.in-Some.unit c.in-Some.ensures.last in
      let same = ap (λ u. g.D.Duty.worth c.args.self.now.duty eye c.shared_part.result.now u) c.bytes.ensures
      ∙ ap (λ s. g.D.Duty.worth c.args.self.now.duty eye s c.in-Some.unit) c.shared_part.ensures in
      refused _ _ _ (shared_bytes c.args.common.now) _ _ _ _ _ _
      (opened _ _ _ (shared_bytes c.args.common.now) _ Rejected c.in_ok-begin_batch.ensures.made.said c.in-Ok.ensures c.in-Rejected.is)
      (c.tries.invariant.going eye) (omega (arith, sum, same, c.in_ok-work-in-Rejected.ensures.work eye))
      (c.in_ok-work-in-Rejected.ensures.few eye);
  free = search rules;
  closed = search rules;
  seat = search rules;
  longer = search rules;
}

pub returns-in-Ended-clause-passes : goal.returns-in-Ended-clause-passes
returns-in-Ended-clause-passes g c = λ eye.
    shut _ _ _ (shared_bytes c.args.common.now) _ _ _ _ c.in-Ended.field-0
    (opened _ _ _ (shared_bytes c.args.common.now) _ (Ended c.in-Ended.field-0) c.in_ok-begin_batch.ensures.made.said c.in-Ok.ensures
    c.in-Ended.is)
    (c.tries.invariant.going eye) (g.met.R.Rank.short _)
