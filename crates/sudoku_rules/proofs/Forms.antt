-- The cells of a grid in place are those of a grid.
use Rattle.std.proofs.Common.{arith}
use Rattle.sudoku_rules.specs.Sides.{IsSudoku}
use Rattle.sudoku_rules.specs.inside.Forms.{IsForm, cells_of}
use Rattle.sudoku_rules.specs.declared.grid.Form.{Form}
use Rattle.sudoku_rules.specs.declared.grid.Form.TheVariants.{Four, Nine, Sixteen}
use Rattle.sudoku_rules.proofs.Sides.{grid_sudoku}

-- the cells of a form are a grid of a sudoku
pub form_sudoku : (form : Form) → IsForm form → IsSudoku (cells_of form)
form_sudoku (Four cells) is = grid_sudoku 2 (omega arith) (omega arith) cells is
form_sudoku (Nine cells) is = grid_sudoku 3 (omega arith) (omega arith) cells is
form_sudoku (Sixteen cells) is = grid_sudoku 4 (omega arith) (omega arith) cells is
