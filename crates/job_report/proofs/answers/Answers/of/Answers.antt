use Rattle.std.proofs.Common.{◌∙◌}
use Rattle.job_report.proofs.Told.{outcome_noted}
use Rattle.job_report.proofs.answers.Answers.of.Goals as goal

pub loop-outcome-preserved : goal.loop-outcome-preserved
loop-outcome-preserved c = λ b n.
    outcome_noted b n c.loop-outcome.outcome-index c.args.outcomes.now c.outcome-item.result c.deref.result.now _ _
    c.loop-outcome-test.true c.outcome-item.is c.deref.ensures.value (c.in_ok-add.ensures b n)
    ∙ c.loop-outcome.invariant b n
