use Rattle.std.proofs.Common.{◌<◌, ◌&&◌, not, ℕ, length, get_or, refl, ap, ◌∙◌, arith}
use Rattle.std.proofs.lemmas.List.{length-set, get_or-set_same, get_or-set_other}
use Rattle.std.proofs.lemmas.Nat.{one_shl}
use Rattle.sudoku_rules.specs.inside.Planes.{has}
use Rattle.sudoku_rules.proofs.Sides.{narrow_size}
use Rattle.sudoku_rules.proofs.PlaneBits.{has_one}
use Rattle.sudoku_rules.proofs.boards.Board.place.Goals as goal

pub returns : goal.returns
returns g c =
    let m : ℕ = g.row.M in
    let x : ℕ = c.args.x in
    let planes = c.args.self.now.options in
    let few : c.args.cell < 128 = omega (arith, narrow_size m c.requires.sized.low c.requires.narrow, c.requires.cell) in
    let one = one_shl c.args.cell 128 few in
    let within : x < length planes = omega (arith, c.requires.sized.side, c.requires.digit) in
    record {
      cells = refl;
      long = length-set planes x c.less.result;
      blank = λ k.
          c.less-self.ensures k
          ∙ ap (λ b. has c.args.self.now.blank k && not b) (ap (λ v. has v k) one ∙ has_one c.args.cell k);
      own = λ k.
          ap (λ p. has p k) (get_or-set_same planes x c.less.result 0 within)
          ∙ c.less.ensures k
          ∙ ap (λ b. has (get_or planes x 0) k && not b) (c.sharing.ensures k);
      others = λ y differs. get_or-set_other planes x y c.less.result 0 differs;
    }
