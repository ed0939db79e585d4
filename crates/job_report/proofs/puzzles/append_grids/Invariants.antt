use Rattle.std.proofs.Common.{◌≡◌, ◌++◌, drop}
use Rattle.job_report.specs.Report.{grid_lines}
use Rattle.job_report.proofs.puzzles.append_grids.Given as goal

abbrev pub invariant-loop-grid : goal.invariant-loop-grid
invariant-loop-grid l = l.text.items ++ grid_lines (drop l.grid-index l.grids) ≡ l.fn.text.items ++ grid_lines l.grids
