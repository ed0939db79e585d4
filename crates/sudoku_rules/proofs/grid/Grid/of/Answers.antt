use Rattle.std.proofs.Common.{sym, arith}
use Rattle.sudoku_rules.proofs.Sides.{sudoku_wide, as_grid}
use Rattle.sudoku_rules.proofs.grid.Grid.of.Goals as goal
use Rattle.sudoku_rules.proofs.grid.Grid.of.Goals.{in-Ok, in_default+in-Ok-try_into, in_default+in_default-try_into}

pub copy_from_slice-requires : goal.copy_from_slice-requires
copy_from_slice-requires c = sym (sudoku_wide c.args.cells.now c.requires c.in_default.ensures.1 c.in_default-try_into.ensures.1)

pub invariant_of-result : goal.invariant_of-result
invariant_of-result c =
    let g = c.args.cells.now in
    elim c.match-try_into.branch [
      | in-Ok w ↦ rw (w.form-is, w.in-Ok.ensures.1.same) (as_grid 2 (omega arith) (omega arith) g c.requires w.in-Ok.ensures.1.long)
      | in_default+in-Ok-try_into w ↦ rw (w.form-is, w.in-Ok-try_into.ensures.1.same)
          (as_grid 3 (omega arith) (omega arith) g c.requires w.in-Ok-try_into.ensures.1.long)
      | in_default+in_default-try_into w ↦ rw (w.form-is, w.copy_from_slice.ensures.after)
          (as_grid 4 (omega arith) (omega arith) g c.requires
          (sudoku_wide g c.requires w.in_default.ensures.1 w.in_default-try_into.ensures.1))
    ]
