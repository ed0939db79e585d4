-- For the crate itself. Solutions that are told where they are.
use Rattle.std.specs.Prelude.{ℕ, List, map}
use Rattle.std.specs.Borrow.{Bor}
use Rattle.sudoku_law.specs.Grid.{Cells}

-- their numbers and grids
abbrev pub pairs : List (ℕ × Bor Cells) → List (ℕ × Cells)
pairs told = map (λ s. (s.0, s.1.now)) told
