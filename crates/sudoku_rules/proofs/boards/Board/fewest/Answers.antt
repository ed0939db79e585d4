use Rattle.std.proofs.Common.{◌<◌, ◌≤◌, ℕ, sym, arith, rules, subst}
use Rattle.sudoku_rules.proofs.Sides.{side_few}
use Rattle.sudoku_rules.proofs.BoardSteps.{few_blank, fewest_board, none_blank, options_are}
use Rattle.sudoku_rules.proofs.boards.Board.fewest.Goals as goal

pub returns-then-self-eq0 : goal.returns-then-self-eq0
returns-then-self-eq0 g c = none_blank g.row.M c.args.self.now c.requires.board c.if-self-eq0.true

pub options_at-options-requires : goal.options_at-options-requires
options_at-options-requires g c =
    let few : g.row.SIDE ≤ 16 = omega (arith, side_few g.row.M c.requires.sized.low c.requires.sized.high, c.requires.sized.side) in
    (search rules, (c.first_of-cell.ensures.few, few))

pub returns : goal.returns
returns g c =
    let m : ℕ = g.row.M in
    let few : ℕ = c.with_fewest.result in
    let cell : ℕ = c.first_of-cell.result in
    let blank = few_blank m c.args.self.now few cell c.requires.board c.with_fewest.ensures c.first_of-cell.ensures.there in
    let small = rw c.requires.sized.side at c.options_at-options.ensures.small in
    fewest_board m c.args.self.now few cell c.options_at-options.result c.requires.board c.with_fewest.ensures
    c.first_of-cell.ensures.there c.first_of-cell.ensures.first
    (options_are m c.args.self.now cell c.options_at-options.result c.requires.board blank small
    (λ x below. c.options_at-options.ensures.bits x (subst (λ s. x < s) (sym c.requires.sized.side) below)))
