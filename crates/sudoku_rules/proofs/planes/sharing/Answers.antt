use Rattle.std.proofs.Common.{◌≡◌, ◌<◌, arith, subst}
use Rattle.sudoku_law.specs.Grid.{size}
use Rattle.sudoku_rules.proofs.Tables.{sharing_four, sharing_nine}
use Rattle.sudoku_rules.proofs.planes.sharing.Goals as goal

pub returns-then-this-eq2 : goal.returns-then-this-eq2
returns-then-this-eq2 g c = λ k.
    let two : g.row.M ≡ 2 = c.if-this-eq2.true in
    rw two (sharing_four c.args.cell k (subst (λ m. c.args.cell < size m) two c.requires.cell))

pub returns-else-this-eq2 : goal.returns-else-this-eq2
returns-else-this-eq2 g c = λ k.
    let three : g.row.M ≡ 3 = omega arith in
    rw three (sharing_nine c.args.cell k (subst (λ m. c.args.cell < size m) three c.requires.cell))
