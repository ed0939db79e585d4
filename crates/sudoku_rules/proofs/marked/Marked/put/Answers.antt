use Rattle.std.proofs.Common.{◌≡◌, ◌<◌, ◌+◌, ◌-◌, ℕ, false, refl, arith}
use Rattle.std.proofs.lemmas.Nat.{one_shl}
use Rattle.sudoku_law.specs.Grid.{column_of, used}
use Rattle.sudoku_rules.proofs.Carried.{put_carried}
use Rattle.sudoku_rules.proofs.Sides.{side_few, column_within}
use Rattle.sudoku_rules.proofs.marked.Marked.put.Goals as goal

pub returns : goal.returns
returns g c =
    let m : ℕ = g.row.M in
    let cell : ℕ = c.args.cell in
    let sized = c.requires.sized in
    let at = c.around-row.ensures in
    let few : column_of m cell < 16 = omega (arith, column_within m sized.low sized.high cell, side_few m sized.low sized.high) in
    let digit : c.args.digit - 1 + 1 ≡ c.args.digit = omega arith in
    let unused : used m c.args.self.now.cells cell (c.args.digit - 1 + 1) ≡ false = rw digit c.requires.unused in
    let next = put_carried m sized.low sized.high c.args.self.now cell (c.args.digit - 1) c.requires.carried c.requires.blank
    (omega arith) unused in
    let here = rw digit at next in
    record {
      after = rw (at.row, at.column, at.place, c.bit_of-bit.ensures, one_shl (column_of m cell) 16 few, digit) refl;
      carried = rw (at.row, at.column, at.place, c.bit_of-bit.ensures, one_shl (column_of m cell) 16 few) here;
    }
