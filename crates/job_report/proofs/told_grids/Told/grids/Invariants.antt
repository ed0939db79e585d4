use Rattle.std.proofs.Common.{◌≡◌, map, take}
use Rattle.job_report.proofs.told_grids.Told.grids.Given as goal

abbrev pub invariant-loop-solution : goal.invariant-loop-solution
invariant-loop-solution l = l.grids.items ≡ map (λ s. s.1.now) (take l.solution-index l.told)
