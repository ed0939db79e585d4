use Rattle.std.proofs.Common.{◌<◌, refl, sym, ◌∙◌, subst}
use Rattle.sudoku_rules.proofs.BoardSteps.{board_of}
use Rattle.sudoku_rules.proofs.boards.Board.of.Goals as goal

pub returns-then-seen : goal.returns-then-seen
returns-then-seen g c = sym c.of-seen.ensures.clash ∙ c.if-seen.true

pub returns : goal.returns
returns g c = (
  board_of g.row.M c.args.cells.now c.of-seen.result c.options.result c.requires.grid c.of-seen.ensures c.if-seen.false
      (c.options.ensures.long ∙ c.requires.sized.side)
      (λ x k below. c.options.ensures.left x k (subst (λ s. x < s) (sym c.requires.sized.side) below)),
  refl,
)
