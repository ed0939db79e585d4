use Rattle.std.proofs.Common.{◌≡◌, ◌<◌, ◌/◌, ◌%◌, ◌∙◌, ℕ, ap, sym, subst, refl}
use Rattle.sudoku_law.specs.Grid.{row_of, column_of, side}
use Rattle.sudoku_rules.proofs.Sides.{row_within, column_within}
use Rattle.sudoku_rules.proofs.look.around.Goals as goal

pub box_at-requires-clause-row : goal.box_at-requires-clause-row
box_at-requires-clause-row g c = rw c.requires.side (row_within g.row.M c.requires.low c.requires.high c.args.cell c.requires.cell)

pub box_at-requires-clause-column : goal.box_at-requires-clause-column
box_at-requires-clause-column g c = rw c.requires.side (column_within g.row.M c.requires.low c.requires.high c.args.cell)

pub returns : goal.returns
returns g c =
    let m : ℕ = g.row.M in
    let cell : ℕ = c.args.cell in
    let row : cell / g.row.SIDE ≡ row_of m cell = ap (λ s. cell / s) c.requires.side in
    let column : cell % g.row.SIDE ≡ column_of m cell = ap (λ s. cell % s) c.requires.side in
    let back : side m ≡ g.row.SIDE = sym c.requires.side in
    record {
      row = row;
      column = column;
      place = c.box_at.ensures.place ∙ rw (row, column) refl;
      within = (
        subst (λ s. cell / g.row.SIDE < s) back (rw row (row_within m c.requires.low c.requires.high cell c.requires.cell)),
        subst (λ s. cell % g.row.SIDE < s) back (rw column (column_within m c.requires.low c.requires.high cell)),
        subst (λ s. c.box_at.result < s) back c.box_at.ensures.few,
      );
    }
