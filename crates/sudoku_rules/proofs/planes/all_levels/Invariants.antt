use Rattle.std.proofs.Common.{◌≡◌, ◌<◌, ℕ, get_or, ltb}
use Rattle.sudoku_rules.specs.inside.Planes.{has, many}
use Rattle.sudoku_rules.proofs.planes.all_levels.Given as goal

abbrev pub invariant-loop-plane : goal.invariant-loop-plane
invariant-loop-plane g l = (n k : ℕ) → n < g.row.SIDE → has (get_or l.levels n 0) k ≡ ltb n (many l.planes l.plane-index k)
