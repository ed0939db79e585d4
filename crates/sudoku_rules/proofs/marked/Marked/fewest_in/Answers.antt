use Rattle.std.proofs.Common.{◌≡◌, ◌<◌, ◌≤◌, ◌+◌, ◌*◌, ℕ, length, get_or, sym, arith, subst, rules}
use Rattle.std.proofs.lemmas.Bool.{eqb-true}
use Rattle.sudoku_law.specs.Grid.{Cells, side, size}
use Rattle.sudoku_rules.proofs.Sides.{side_few, cell_within}
use Rattle.sudoku_rules.proofs.Scan.{IsScanned, blank_at, scan_first, scan_next, scan_last}
use Rattle.sudoku_rules.proofs.marked.Marked.fewest_in.Goals as goal

pub loop-left-init : goal.loop-left-init
loop-left-init g c = scan_first g.row.M c.args.self.now.cells c.args.row _ c.args.best
    (c.requires.carried.blanks.rows c.args.row c.requires.row) c.requires.before

pub better-best-requires : goal.better-best-requires
better-best-requires g c =
    let m : ℕ = g.row.M in
    let digits : side m ≤ 16 = side_few m c.requires.sized.low c.requires.sized.high in
    let step = c.take_lowest-column.ensures.rest (side m)
    (λ j. blank_at m c.args.self.now.cells c.args.row j) c.loop-left.invariant.from digits c.loop-left.invariant.rest in
    (search rules, (c.requires.sized.low, (c.requires.sized.high, (c.requires.sized.side, (c.requires.row, step.0.few)))))

pub loop-left-preserved : goal.loop-left-preserved
loop-left-preserved g c =
    let m : ℕ = g.row.M in
    let h : Cells = c.args.self.now.cells in
    let row : ℕ = c.args.row in
    let k : ℕ = c.take_lowest-column.result in
    let digits : side m ≤ 16 = side_few m c.requires.sized.low c.requires.sized.high in
    let step = c.take_lowest-column.ensures.rest (side m)
    (λ j. blank_at m h row j) c.loop-left.invariant.from digits c.loop-left.invariant.rest in
    let few : k < side m = step.0.few in
    let inside : row * side m + k < size m = cell_within m c.requires.sized.low c.requires.sized.high row k c.requires.row few in
    let within : row * side m + k < length h = subst (λ n. row * side m + k < n) (sym c.requires.carried.grid.long) inside in
    let e : row * side m + (k + 1) ≡ row * side m + k + 1 = omega arith in
    record {
      from = k + 1;
      few = omega arith;
      rest = step.1;
      chosen = rw e (c.better-best.ensures h within (eqb-true (get_or h (row * side m + k) 0) 0 step.0.passes) c.requires.carried.masks
          (scan_next m h row c.loop-left.left k c.loop-left.best c.loop-left.invariant step.0));
    }

pub returns : goal.returns
returns g c = scan_last g.row.M c.args.self.now.cells c.args.row c.loop-left.best
    (subst (λ v. IsScanned g.row.M c.args.self.now.cells c.args.row v c.loop-left.best) c.loop-left-test.false c.loop-left.invariant)
