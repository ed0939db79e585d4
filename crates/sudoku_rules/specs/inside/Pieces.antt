-- What one node adds to an expansion.
use Rattle.std.specs.Prelude.{ℕ, false, [], ◌∷◌}
use Rattle.sudoku_law.specs.Grid.{Cells}
use Rattle.sudoku_law.specs.Tree.{Met}

-- a solution node
abbrev pub solved : Cells → Met
solved g = record { solutions = g ∷ []; children = []; over = false }

-- a child that is handed out with its share of the budget
abbrev pub handed_out : ℕ → Cells → Met
handed_out share g = record { solutions = []; children = (share, g) ∷ []; over = false }
