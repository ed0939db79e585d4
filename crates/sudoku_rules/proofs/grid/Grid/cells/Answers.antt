use Rattle.sudoku_rules.proofs.Forms.{form_sudoku}
use Rattle.sudoku_rules.proofs.grid.Grid.cells.Goals as goal

pub returns-in-Four-clause-grid : goal.returns-in-Four-clause-grid
returns-in-Four-clause-grid c = rw (← c.self.view_is) (form_sudoku c.self.inside.form c.self.invariant)

pub returns-in-Nine-clause-grid : goal.returns-in-Nine-clause-grid
returns-in-Nine-clause-grid c = rw (← c.self.view_is) (form_sudoku c.self.inside.form c.self.invariant)

pub returns-in-Sixteen-clause-grid : goal.returns-in-Sixteen-clause-grid
returns-in-Sixteen-clause-grid c = rw (← c.self.view_is) (form_sudoku c.self.inside.form c.self.invariant)
