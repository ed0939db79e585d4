use Rattle.sudoku_rules.specs.inside.Planes.{AreLevels}
use Rattle.sudoku_rules.proofs.planes.Levels.of.Given as goal

abbrev pub invariant-loop-plane : goal.invariant-loop-plane
invariant-loop-plane l = AreLevels l.planes l.plane-index l.levels
