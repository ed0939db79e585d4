use Rattle.std.proofs.Common.{◌≡◌, ◌<◌, ◌*◌, ◌%◌, ◌^◌, ◌&&◌, not, ℕ, length, get_or, set, refl, sym, ap, ◌∙◌, inl, inr, arith, eqb}
use Rattle.std.proofs.lemmas.Bool.{cases_eq, cases_lt}
use Rattle.std.proofs.lemmas.List.{length-set, get_or-set_same, get_or-set_other, get_or_past}
use Rattle.std.proofs.lemmas.Nat.{one_shl}
use Rattle.sudoku_rules.specs.inside.Planes.{has}
use Rattle.sudoku_rules.proofs.PlaneBits.{has_none, has_one}
use Rattle.sudoku_rules.proofs.boards.Board.leave.Goals as goal

pub loop-x-init : goal.loop-x-init
loop-x-init g c = record {
  cells = refl;
  blank = refl;
  long = refl;
  done = λ y k below. absurd (omega arith);
  rest = λ y above. refl;
}

pub loop-x-preserved : goal.loop-x-preserved
loop-x-preserved g c =
    let inv = c.loop-x.invariant in
    let x : ℕ = c.loop-x.x in
    let planes = c.loop-x.self.options in
    let next : ℕ = c.less.result in
    let within : x < length planes = omega arith in
    let one = one_shl c.args.cell 128 c.requires in
    record {
      cells = inv.cells;
      blank = inv.blank;
      long = length-set planes x next ∙ inv.long;
      done = λ y k below. elim (cases_eq y x) [
        | inl same ↦
            ap (λ i. has (get_or (set planes x next) i 0) k) same
            ∙ ap (λ p. has p k) (get_or-set_same planes x next 0 within)
            ∙ c.less.ensures k
            ∙ ap (λ p. has p k && not (has (1 * 2 ^ c.args.cell % 2 ^ 128) k)) (inv.rest x (omega arith))
            ∙ ap (λ b. has (get_or c.args.self.now.options x 0) k && not b) (ap (λ v. has v k) one ∙ has_one c.args.cell k)
            ∙ ap (λ i. has (get_or c.args.self.now.options i 0) k && not (eqb k c.args.cell)) (sym same)
        | inr differs ↦
            ap (λ p. has p k) (get_or-set_other planes x y next 0 differs) ∙ inv.done y k (omega arith)
      ];
      rest = λ y above. get_or-set_other planes x y next 0 (λ e. omega arith) ∙ inv.rest y (omega arith);
    }

pub returns : goal.returns
returns g c =
    let inv = c.loop-x.invariant in
    record {
      cells = inv.cells;
      blank = inv.blank;
      long = inv.long;
      options = λ y k. elim (cases_lt y c.loop-x.x) [
        | inl less ↦ inv.done y k less
        | inr more ↦
            let past : get_or c.args.self.now.options y 0 ≡ 0 = get_or_past c.args.self.now.options y 0 (omega arith) in
            ap (λ p. has p k) (inv.rest y more ∙ past) ∙ has_none k
            ∙ sym (ap (λ b. b && not (eqb k c.args.cell)) (ap (λ p. has p k) past ∙ has_none k))
      ];
    }
