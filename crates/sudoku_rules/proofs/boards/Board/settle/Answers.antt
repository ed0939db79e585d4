use Rattle.std.proofs.Common.{arith, rules}
use Rattle.sudoku_rules.proofs.Alone.{blanks_few}
use Rattle.sudoku_rules.proofs.Filled.{filled_none, filled_then}
use Rattle.sudoku_rules.proofs.boards.Board.settle.Goals as goal

pub loop-round-init : goal.loop-round-init
loop-round-init g c =
    filled_none g.row.M c.args.self.now c.args.budget c.requires.board (omega (arith, blanks_few c.args.self.now.cells))

pub loop-round-preserved : goal.loop-round-preserved
loop-round-preserved g c =
    filled_then g.row.M c.args.self.now c.loop-round.self c.fill-left.new.self c.args.budget c.loop-round.left c.fill-left.result
    c.loop-round.invariant c.fill-left.ensures

pub fill-left-requires : goal.fill-left-requires
fill-left-requires g c =
    let inv = c.loop-round.invariant in
    (search rules, (c.requires.sized, (c.requires.narrow, (inv.board, (c.singles-singles.ensures, inv.lasts)))))

pub returns-then-singles-eq0-clause-board : goal.returns-then-singles-eq0-clause-board
returns-then-singles-eq0-clause-board g c = c.loop-round.invariant.board

pub returns-then-singles-eq0-clause-less : goal.returns-then-singles-eq0-clause-less
returns-then-singles-eq0-clause-less g c = c.loop-round.invariant.less

pub returns-then-singles-eq0-clause-same : goal.returns-then-singles-eq0-clause-same
returns-then-singles-eq0-clause-same g c = c.loop-round.invariant.same

pub returns-clause-board : goal.returns-clause-board
returns-clause-board g c = c.loop-round.invariant.board

pub returns-clause-less : goal.returns-clause-less
returns-clause-less g c = c.loop-round.invariant.less

pub returns-clause-same : goal.returns-clause-same
returns-clause-same g c = c.loop-round.invariant.same
