use Rattle.job_report.proofs.Sought.{overs_all, overs_more}
use Rattle.std.proofs.Common.{◌∙◌}
use Rattle.job_report.proofs.found.overs_of.Goals as goal

pub loop-outcome-preserved : goal.loop-outcome-preserved
loop-outcome-preserved c = λ n.
    overs_more n c.loop-outcome.outcome-index c.args.outcomes.now c.outcome-item.result c.loop-outcome-test.true c.outcome-item.is _ _
    _ c.deref.ensures.value (c.in_ok-add_overs.ensures n)
    ∙ c.loop-outcome.invariant n

pub returns : goal.returns
returns c = λ n.
    overs_all n c.loop-outcome.outcome-index c.args.outcomes.now _ _ c.loop-outcome-test.false (c.loop-outcome.invariant n)
