use Rattle.std.proofs.Common.{◌&&◌, not, ℕ, get_or, set, sym, ap, ◌∙◌, inl, inr, arith}
use Rattle.std.proofs.lemmas.Bool.{cases_eq}
use Rattle.std.proofs.lemmas.List.{length-set, length-replicate, get_or-set_same, get_or-set_other}
use Rattle.sudoku_rules.specs.inside.Planes.{has}
use Rattle.sudoku_rules.proofs.boards.Seen.options.Goals as goal

pub loop-x-init : goal.loop-x-init
loop-x-init g c = record { long = length-replicate {A = ℕ} g.row.SIDE 0; done = λ x k below. absurd (omega arith) }

pub loop-x-preserved : goal.loop-x-preserved
loop-x-preserved g c =
    let inv = c.loop-x.invariant in
    record {
      long = length-set c.loop-x.options c.loop-x.x c.less.result ∙ inv.long;
      done = λ x k below. elim (cases_eq x c.loop-x.x) [
        | inl same ↦
            ap (λ i. has (get_or (set c.loop-x.options c.loop-x.x c.less.result) i 0) k) same
            ∙ ap (λ p. has p k) (get_or-set_same c.loop-x.options c.loop-x.x c.less.result 0 (omega (arith, inv.long)))
            ∙ c.less.ensures k
            ∙ ap (λ i. has c.args.self.now.blank k && not (has (get_or c.args.self.now.planes i 0) k)) (sym same)
        | inr differs ↦
            ap (λ p. has p k) (get_or-set_other c.loop-x.options c.loop-x.x x c.less.result 0 differs) ∙ inv.done x k (omega arith)
      ];
    }

pub returns-clause-long : goal.returns-clause-long
returns-clause-long g c = c.loop-x.invariant.long

pub returns-clause-left : goal.returns-clause-left
returns-clause-left g c = λ x k below. c.loop-x.invariant.done x k (omega arith)
