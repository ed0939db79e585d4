-- The cells of a grid in an array of the side's length.
use Rattle.std.specs.Prelude.{◌≡◌, ◌==◌, length, if◌then◌else◌}
use Rattle.std.proofs.Common.{ap}
use Rattle.sudoku_law.specs.Grid.{Cells, IsGrid}
use Rattle.sudoku_rules.specs.declared.grid.Form.{Form}
use Rattle.sudoku_rules.specs.declared.grid.Form.TheVariants.{Four, Nine, Sixteen}

-- the cells of a form
abbrev pub cells_of : Form → Cells
cells_of (Four cells) = cells
cells_of (Nine cells) = cells
cells_of (Sixteen cells) = cells

-- the cells are those of a grid of this side
abbrev pub IsForm : Form → Type 0
IsForm (Four cells) = IsGrid 2 cells
IsForm (Nine cells) = IsGrid 3 cells
IsForm (Sixteen cells) = IsGrid 4 cells

-- the form of cells, by their number
abbrev pub form_of : Cells → Form
form_of g = if length g == 16 then Four g else if length g == 81 then Nine g else Sixteen g

-- a form is that of its cells
pub form_back : (form : Form) → IsForm form → form_of (cells_of form) ≡ form
form_back (Four cells) is = ap (λ n. if n == 16 then Four cells else if n == 81 then Nine cells else Sixteen cells) is.long
form_back (Nine cells) is = ap (λ n. if n == 16 then Four cells else if n == 81 then Nine cells else Sixteen cells) is.long
form_back (Sixteen cells) is = ap (λ n. if n == 16 then Four cells else if n == 81 then Nine cells else Sixteen cells) is.long
