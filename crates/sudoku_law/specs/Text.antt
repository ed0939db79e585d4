-- The text of a grid.
use Rattle.std.specs.Prelude.{ℕ, ◌+◌, List, map, nat_lt, if◌then◌else◌}
use Rattle.sudoku_law.specs.Grid.{Cells}

-- the sign of a digit: 0 to 9 as such, and A for 10, B for 11 and so on
abbrev pub sign : ℕ → ℕ
sign d = if nat_lt d 10 then 48 + d else 55 + d

-- the signs of the cells
abbrev pub text_of : Cells → List ℕ
text_of g = map sign g
