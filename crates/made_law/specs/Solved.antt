-- What has a solution.
use Rattle.sudoku_law.specs.Grid.{Cells, IsSolution}

-- a grid of side 9 that has a solution
abbrev pub IsSolvable : Cells → Type 0
IsSolvable grid = (s : Cells) × IsSolution 3 grid s
