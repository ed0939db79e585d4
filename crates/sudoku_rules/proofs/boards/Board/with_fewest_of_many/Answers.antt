use Rattle.std.proofs.Common.{◌≡◌, ◌≤◌, ◌&&◌, length, get_or, sym, ap, ◌∙◌, arith, ltb}
use Rattle.std.proofs.lemmas.Bool.{le-leb}
use Rattle.sudoku_rules.specs.inside.Planes.{has, many}
use Rattle.sudoku_rules.proofs.AnyBelow.{and_true}
use Rattle.sudoku_rules.proofs.PlaneBits.{few_are, many_at_most, more_each}
use Rattle.sudoku_rules.proofs.boards.Board.with_fewest_of_many.Goals as goal

pub loop-n-init : goal.loop-n-init
loop-n-init g c = λ k in_all. omega arith

pub returns-then-few-ne0 : goal.returns-then-few-ne0
returns-then-few-ne0 g c =
    let planes = c.args.self.now.options in
    let long : length planes ≡ g.row.SIDE = omega arith in
    few_are planes c.loop-n.n c.args.self.now.blank (get_or c.all_levels-levels.result c.loop-n.n 0) c.less-few.result
    (λ k. c.all_levels-levels.ensures c.loop-n.n k (omega arith) ∙ ap (λ s. ltb c.loop-n.n (many planes s k)) (sym long))
    c.less-few.ensures (omega arith) c.loop-n.invariant

pub loop-n-preserved : goal.loop-n-preserved
loop-n-preserved g c =
    let planes = c.args.self.now.options in
    let long : length planes ≡ g.row.SIDE = omega arith in
    more_each planes c.loop-n.n c.args.self.now.blank (get_or c.all_levels-levels.result c.loop-n.n 0) c.less-few.result
    (λ k. c.all_levels-levels.ensures c.loop-n.n k (omega arith) ∙ ap (λ s. ltb c.loop-n.n (many planes s k)) (sym long))
    c.less-few.ensures (omega arith)

pub returns : goal.returns
returns g c =
    let planes = c.args.self.now.options in
    record {
      n = c.loop-n.n;
      some = c.requires;
      cells = λ k.
          let long : length planes ≡ g.row.SIDE = omega arith in
          let most : many planes (length planes) k ≤ c.loop-n.n = omega (arith, many_at_most planes (length planes) k) in
          sym (ap (λ b. has c.args.self.now.blank k && b) (le-leb (many planes (length planes) k) c.loop-n.n most)
          ∙ and_true (has c.args.self.now.blank k));
      least = c.loop-n.invariant;
    }
