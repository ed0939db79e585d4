use Rattle.std.proofs.Common.{◌≡◌, ◌≤◌, ◌+◌, ◌*◌, ◌/◌, ◌%◌, ℕ, ap, ◌∙◌, subst}
use Rattle.sudoku_law.specs.Grid.{Cells, side}
use Rattle.sudoku_rules.specs.inside.Masks.{AreOptions}
use Rattle.sudoku_rules.proofs.Sides.{box_is, cell_is}
use Rattle.sudoku_rules.proofs.Masks.{option_bits}
use Rattle.sudoku_rules.proofs.grid.candidates_of.Goals as goal

-- the options are those of the cell
options : (m s cell result : ℕ) → 2 ≤ m → m ≤ 4 → s ≡ side m → (g : Cells)
    → AreOptions m g (cell / s * side m + cell % s) result → AreOptions m g cell result
options m s cell result low high same g are =
    subst (λ k. AreOptions m g k result) (ap (λ n. cell / n * side m + cell % n) same ∙ cell_is m low high cell) are

pub returns : goal.returns
returns g c =
    let m : ℕ = g.row.M in
    let h : Cells = c.args.cells.now in
    let sized = c.requires.sized in
    let are =
    options m g.row.SIDE c.args.cell c.options_at.result sized.low sized.high sized.side h (c.options_at.ensures h c.of.ensures) in
    rw (box_is m sized.low sized.high h c.requires.grid) (record {
      bits = λ d least most. option_bits m h c.args.cell c.options_at.result d are least most;
      few = are.small;
    })
