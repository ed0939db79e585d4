use Rattle.std.proofs.Common.{◌<◌, ◌+◌, set, ap, ◌∙◌, arith, rules}
use Rattle.sudoku_law.specs.Grid.{Cells, size}
use Rattle.sudoku_rules.proofs.Sides.{narrow_size}
use Rattle.sudoku_rules.proofs.BoardSteps.{near_left, place_board, stands_is}
use Rattle.sudoku_rules.proofs.boards.Board.child.Goals as goal

pub leave-requires : goal.leave-requires
leave-requires g c =
    let at = stands_is g.row.M c.args.self.now c.args.x c.args.cell c.requires.board c.requires.digit c.requires.option in
    omega (
      arith,
      at.blank.within,
      c.requires.board.grid.long,
      narrow_size g.row.M c.requires.sized.low c.requires.narrow,
    )

pub place-requires : goal.place-requires
place-requires g c =
    let at = stands_is g.row.M c.args.self.now c.args.x c.args.cell c.requires.board c.requires.digit c.requires.option in
    let within : c.args.cell < size g.row.M = omega (arith, at.blank.within, c.requires.board.grid.long) in
    (search rules, (c.requires.sized, (c.requires.narrow, (within, c.requires.digit))))

pub returns-clause-cells : goal.returns-clause-cells
returns-clause-cells g c = c.place.ensures.cells ∙ ap (λ (h : Cells). set h c.args.cell (c.args.x + 1)) c.leave.ensures.cells

pub returns-clause-board : goal.returns-clause-board
returns-clause-board g c =
    place_board g.row.M c.args.self.now c.leave.new.self c.place.new.self c.args.cell c.args.x c.requires.board
    (near_left c.args.self.now c.leave.new.self c.args.cell c.args.x c.leave.ensures) c.requires.digit
    (stands_is g.row.M c.args.self.now c.args.x c.args.cell c.requires.board c.requires.digit c.requires.option) c.place.ensures
