use Rattle.std.proofs.Common.{◌≡◌, ◌<◌, ◌+◌, ◌*◌, ℕ, ap, sym, ◌∙◌, get_or, arith}
use Rattle.sudoku_law.specs.Grid.{side}
use Rattle.sudoku_rules.proofs.Sides.{side_few}
use Rattle.sudoku_rules.proofs.Blanks.{row_none, row_blank, row_full}
use Rattle.sudoku_rules.proofs.marked.blanks_in.Goals as goal
use Rattle.sudoku_rules.proofs.marked.blanks_in.Goals.{then-cells-row-eq0, else-cells-row-eq0}

pub loop-column-init : goal.loop-column-init
loop-column-init g c = row_none g.row.M c.args.cells.now c.args.row

pub loop-column-preserved : goal.loop-column-preserved
loop-column-preserved g c =
    let m : ℕ = g.row.M in
    let k : ℕ = c.loop-column.column in
    let at : c.args.row * side m + k ≡ c.args.row * g.row.SIDE + k = ap (λ s. c.args.row * s + k) (sym c.requires.sized.side) in
    let few : k < 16 = omega
    (arith, side_few m c.requires.sized.low c.requires.sized.high, c.requires.sized.side, c.loop-column-test.true) in
    elim c.if-cells-row-eq0.branch [
      | then-cells-row-eq0 w ↦ rw w.blanks-is
          (row_blank m c.args.cells.now c.args.row k c.loop-column.blanks few
          (ap (λ i. get_or c.args.cells.now i 0) at ∙ w.if-cells-row-eq0.true) c.loop-column.invariant)
      | else-cells-row-eq0 w ↦ rw w.blanks-is
          (row_full m c.args.cells.now c.args.row k c.loop-column.blanks
          (λ e. w.if-cells-row-eq0.false (ap (λ i. get_or c.args.cells.now i 0) (sym at) ∙ e)) c.loop-column.invariant)
    ]
