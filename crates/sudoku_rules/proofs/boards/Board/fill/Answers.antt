use Rattle.std.proofs.Common.{◌<◌, rules, subst}
use Rattle.sudoku_rules.proofs.Filled.{filled_none, filled_then}
use Rattle.sudoku_rules.proofs.boards.Board.fill.Goals as goal

pub loop-x-init : goal.loop-x-init
loop-x-init g c = record {
  filled = filled_none g.row.M c.args.self.now c.args.budget c.requires.board c.requires.lasts;
  single = c.requires.singles;
}

pub fill_with-left-requires : goal.fill_with-left-requires
fill_with-left-requires g c =
    let inv = c.loop-x.invariant in
    let digit = subst (λ s. c.loop-x.x < s) c.requires.sized.side c.loop-x-test.true in
    (search rules, (c.requires.sized, (c.requires.narrow, (inv.filled.board, (digit, (inv.single, inv.filled.lasts))))))

pub loop-x-preserved : goal.loop-x-preserved
loop-x-preserved g c = record {
  filled = filled_then g.row.M c.args.self.now c.loop-x.self c.fill_with-left.new.self c.args.budget c.loop-x.left c.fill_with-left.result
      c.loop-x.invariant.filled c.fill_with-left.ensures.filled;
  single = c.fill_with-left.ensures.singles;
}

pub returns : goal.returns
returns g c = c.loop-x.invariant.filled
