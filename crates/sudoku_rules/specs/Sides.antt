-- The three sides of a grid, 4, 9 and 16. How many cells a grid has tells its side.
use Rattle.std.specs.Prelude.{◌≡◌, ℕ, ◌==◌, nat_le, Bool, ◌&&◌, ◌⊎◌, length, if◌then◌else◌}
use Rattle.std.specs.List.{list_all}
use Rattle.sudoku_law.specs.Grid.{Cells, side, size, IsGrid}
use Rattle.sudoku_law.specs.Tree.{Tree, tree}

-- n is the number of cells of a grid
abbrev pub IsSize : ℕ → Type 0
IsSize n = (n ≡ 16) ⊎ (n ≡ 81) ⊎ (n ≡ 256)

-- the side of a box, where there are 16, 81 or 256 cells
unfoldable pub box_for : ℕ → ℕ
box_for n = if n == 16 then 2 else if n == 81 then 3 else 4

-- the side of the grid
abbrev pub side_for : ℕ → ℕ
side_for n = side (box_for n)

-- the side of a grid's boxes
abbrev pub box_side : Cells → ℕ
box_side g = box_for (length g)

-- a grid of one of the three sides
abbrev pub IsSudoku : Cells → Type 0
IsSudoku g = IsGrid (box_side g) g

-- the same as a test
abbrev pub is_sudoku : Cells → Bool
is_sudoku g = (length g == size (box_side g)) && list_all (λ d. nat_le d (side (box_side g))) g

-- its search tree
abbrev pub tree_of : ℕ → Cells → Tree
tree_of budget g = tree (box_side g) budget g
