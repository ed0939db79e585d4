use Rattle.sudoku_rules.specs.inside.Boards.{AreSingle, IsFilled}
use Rattle.sudoku_rules.proofs.boards.Board.fill.Given as goal

abbrev pub invariant-loop-x : goal.invariant-loop-x
invariant-loop-x g l = record {
  filled : IsFilled g.row.M l.fn.self l.fn.budget l.self l.left;
  single : AreSingle l.singles l.self.options;
}
