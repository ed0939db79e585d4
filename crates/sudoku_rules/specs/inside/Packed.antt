-- Cells as they are kept: two in a byte where each is below 16, which is so of sides 4 and 9.
use Rattle.std.specs.Prelude.{◌≡◌, ℕ, ◌+◌, ◌*◌, ◌/◌, ◌%◌, List, [], ◌∷◌, ◌++◌, length}
use Rattle.sudoku_law.specs.Grid.{Cells, IsGrid}
use Rattle.sudoku_rules.specs.declared.kept.Held.{Held}
use Rattle.sudoku_rules.specs.declared.kept.Held.TheVariants.{Four, Nine, Sixteen}

-- the first of two cells in the lower half of their byte; an odd cell is left out
unfoldable pub pairs : Cells → List ℕ
pairs [] = []
pairs (x ∷ []) = []
pairs (x ∷ y ∷ rest) = (x + 16 * y) ∷ pairs rest

-- the halves of bytes
unfoldable pub halves : List ℕ → Cells
halves [] = []
halves (b ∷ bs) = b % 16 ∷ b / 16 ∷ halves bs

-- the cells that are held
abbrev pub kept_cells : Held → Cells
kept_cells (Four bytes) = halves bytes.value
kept_cells (Nine last bytes) = halves bytes.value ++ last ∷ []
kept_cells (Sixteen cells) = cells.value

-- they are those of a grid
abbrev pub IsHeld : Held → Type 0
IsHeld (Four bytes) = (length bytes.value ≡ 8) × IsGrid 2 (halves bytes.value)
IsHeld (Nine last bytes) = (length bytes.value ≡ 40) × IsGrid 3 (halves bytes.value ++ last ∷ [])
IsHeld (Sixteen cells) = IsGrid 4 cells.value
