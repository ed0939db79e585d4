use Rattle.sudoku_rules.proofs.Conflict.{test_means}
use Rattle.sudoku_rules.proofs.Sides.{box_is}
use Rattle.sudoku_rules.proofs.grid.has_conflict.Goals as goal

pub returns-clause-meaning : goal.returns-clause-meaning
returns-clause-meaning g c =
    rw (box_is g.row.M c.requires.sized.low c.requires.sized.high c.args.cells.now c.requires.grid)
    (test_means g.row.M c.args.cells.now c.of.result.clash c.of.ensures.clash)

pub returns-clause-test : goal.returns-clause-test
returns-clause-test g c = rw (box_is g.row.M c.requires.sized.low c.requires.sized.high c.args.cells.now c.requires.grid) c.of.ensures.clash
