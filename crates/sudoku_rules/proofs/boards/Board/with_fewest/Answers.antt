use Rattle.std.proofs.Common.{arith}
use Rattle.sudoku_rules.proofs.PlaneBits.{few_are, more_each}
use Rattle.sudoku_rules.proofs.boards.Board.with_fewest.Goals as goal

pub returns-then-none-ne0 : goal.returns-then-none-ne0
returns-then-none-ne0 g c =
    few_are c.args.self.now.options 0 c.args.self.now.blank c.of-levels.result.one c.less-none.result c.of-levels.ensures.one
    c.less-none.ensures (omega arith) (λ k in_all. omega arith)

pub returns-then-one-ne0 : goal.returns-then-one-ne0
returns-then-one-ne0 g c =
    few_are c.args.self.now.options 1 c.args.self.now.blank c.of-levels.result.two c.less-one.result c.of-levels.ensures.two
    c.less-one.ensures (omega arith)
    (more_each c.args.self.now.options 0 c.args.self.now.blank c.of-levels.result.one c.less-none.result c.of-levels.ensures.one
    c.less-none.ensures (omega arith))

pub returns-then-two-ne0 : goal.returns-then-two-ne0
returns-then-two-ne0 g c =
    few_are c.args.self.now.options 2 c.args.self.now.blank c.of-levels.result.three c.less-two.result c.of-levels.ensures.three
    c.less-two.ensures (omega arith)
    (more_each c.args.self.now.options 1 c.args.self.now.blank c.of-levels.result.two c.less-one.result c.of-levels.ensures.two
    c.less-one.ensures (omega arith))
