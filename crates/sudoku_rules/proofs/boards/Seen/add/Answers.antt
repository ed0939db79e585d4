use Rattle.std.proofs.Common.{◌<◌, ◌-◌, ◌∙◌, arith}
use Rattle.std.proofs.lemmas.Nat.{one_shl}
use Rattle.sudoku_rules.proofs.Sides.{narrow_size}
use Rattle.sudoku_rules.proofs.BoardSteps.{seen_blank, seen_digit}
use Rattle.sudoku_rules.proofs.boards.Seen.add.Goals as goal

pub returns-then-digit-eq0 : goal.returns-then-digit-eq0
returns-then-digit-eq0 g c = λ h has are.
    let few : c.args.cell < 128 = omega (arith, narrow_size g.row.M c.requires.low c.requires.high, c.requires.cell) in
    rw (one_shl c.args.cell 128 few) (seen_blank g.row.M h c.args.cell c.args.self.now (has ∙ c.if-digit-eq0.true) are)

pub returns : goal.returns
returns g c = λ h has are.
    let few : c.args.cell < 128 = omega (arith, narrow_size g.row.M c.requires.low c.requires.high, c.requires.cell) in
    rw (one_shl c.args.cell 128 few)
    (seen_digit g.row.M h c.args.cell (c.args.digit - 1) c.sharing.result c.args.self.now (has ∙ omega arith) (omega arith)
    c.requires.cell c.sharing.ensures are)
