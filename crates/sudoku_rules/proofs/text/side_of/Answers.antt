use Rattle.std.proofs.Common.{inl, inr, arith}
use Rattle.sudoku_rules.proofs.Sides.{side_told}
use Rattle.sudoku_rules.proofs.text.side_of.Goals as goal

pub returns-in-16 : goal.returns-in-16
returns-in-16 c = (inl c.in-16.is, side_told 2 (omega arith) (omega arith) c.args.count c.in-16.is)

pub returns-in-81 : goal.returns-in-81
returns-in-81 c = (inr (inl c.in-81.is), side_told 3 (omega arith) (omega arith) c.args.count c.in-81.is)

pub returns-in-256 : goal.returns-in-256
returns-in-256 c = (inr (inr c.in-256.is), side_told 4 (omega arith) (omega arith) c.args.count c.in-256.is)
