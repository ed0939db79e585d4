use Rattle.std.proofs.Common.{◌∙◌}
use Rattle.job_report.proofs.Kept.{all_grids}
use Rattle.job_report.proofs.told_grids.Told.grids.Goals as goal

pub returns : goal.returns
returns c =
    c.loop-solution.invariant ∙ all_grids c.of_puzzle-told.result.now c.loop-solution.solution-index c.loop-solution-test.false
    ∙ c.of_puzzle-told.ensures
