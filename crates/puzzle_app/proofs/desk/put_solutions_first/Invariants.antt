use Rattle.std.proofs.Common.{◌≡◌, ◌++◌, length, map}
use Rattle.job_units.specs.Works.{solution_at}
use Rattle.puzzle_app.proofs.desk.put_solutions_first.Given as goal

abbrev pub invariant-grids : goal.invariant-grids
invariant-grids l = map (solution_at l.puzzle) l.grids.items ++ l.waiting.items ≡
    map (solution_at l.puzzle) l.fn.grids.items ++ l.fn.waiting.items

abbrev pub decreases-grids : goal.decreases-grids
decreases-grids l = length l.grids.items
