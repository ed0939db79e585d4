use Rattle.std.proofs.Common.{◌∙◌, ap}
use Rattle.tour_app.specs.Found.{best_from, seen}
use Rattle.tour_app.proofs.Best.{next_outcome}
use Rattle.tour_app.proofs.output.best_of.Goals as goal

pub loop-outcome-preserved : goal.loop-outcome-preserved
loop-outcome-preserved c =
    next_outcome (seen c.loop-outcome.best) (seen c.in_ok-best.best) _ c.args.outcomes.now c.loop-outcome.outcome-index
    c.outcome-item.result
    c.loop-outcome-test.true c.outcome-item.is c.loop-outcome.invariant
    (c.in_ok-best.ensures ∙ ap (best_from (seen c.loop-outcome.best)) c.deref.ensures.value)
