use Rattle.std.proofs.Common.{◌≡◌, ◌++◌, drop}
use Rattle.job_report.specs.Pairs.{pairs}
use Rattle.job_report.proofs.Kept.{all_told}
use Rattle.job_report.proofs.told_grids.Told.of.Given as goal

abbrev pub invariant-loop-outcome : goal.invariant-loop-outcome
invariant-loop-outcome l = pairs l.list.items ++ all_told (drop l.outcome-index l.outcomes) ≡ all_told l.outcomes
