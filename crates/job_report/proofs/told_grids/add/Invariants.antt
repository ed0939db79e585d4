use Rattle.std.proofs.Common.{◌≡◌, ◌++◌, drop}
use Rattle.job_report.specs.Pairs.{pairs}
use Rattle.job_report.proofs.told_grids.add.Given as goal

abbrev pub invariant-loop-solution : goal.invariant-loop-solution
invariant-loop-solution l = pairs l.list.items ++ drop l.solution-index l.solutions ≡ pairs l.fn.list.items ++ l.solutions
