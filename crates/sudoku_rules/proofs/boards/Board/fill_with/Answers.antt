use Rattle.std.proofs.Common.{◌<◌, ◌∙◌, ℕ, get_or, sym, arith, rules}
use Rattle.std.proofs.lemmas.Bool.{and_parts}
use Rattle.sudoku_law.specs.Grid.{size}
use Rattle.sudoku_rules.specs.inside.Planes.{has}
use Rattle.sudoku_rules.proofs.PlaneBits.{has_and}
use Rattle.sudoku_rules.proofs.BoardSteps.{fewer_cells, own_gone, stands_is}
use Rattle.sudoku_rules.proofs.Filled.{fill_step, filled_none, single_after}
use Rattle.sudoku_rules.proofs.boards.Board.fill_with.Goals as goal

pub loop-cells-init : goal.loop-cells-init
loop-cells-init g c = record {
  filled = filled_none g.row.M c.args.self.now c.args.budget c.requires.board c.requires.lasts;
  single = c.requires.singles;
  inside = λ k there.
      and_parts (has c.args.singles k) (has (get_or c.args.self.now.options c.args.x 0) k)
      (sym (has_and c.args.singles (get_or c.args.self.now.options c.args.x 0) k) ∙ there);
}

pub place-requires : goal.place-requires
place-requires g c =
    let inv = c.loop-cells.invariant in
    let at = stands_is g.row.M c.loop-cells.self c.args.x c.first_of.result inv.filled.board c.requires.digit
    (inv.inside c.first_of.result c.first_of.ensures.there).1 in
    let within : c.first_of.result < size g.row.M = omega (arith, at.blank.within, inv.filled.board.grid.long) in
    (search rules, (c.requires.sized, (c.requires.narrow, (within, c.requires.digit))))

pub overflow_sub-left : goal.overflow_sub-left
overflow_sub-left g c = omega (arith, c.loop-cells.invariant.filled.lasts)

pub loop-cells-smaller : goal.loop-cells-smaller
loop-cells-smaller g c =
    let inv = c.loop-cells.invariant in
    let cell : ℕ = c.first_of.result in
    let at = stands_is g.row.M c.loop-cells.self c.args.x cell inv.filled.board c.requires.digit
    (inv.inside cell c.first_of.ensures.there).1 in
    let within : cell < size g.row.M = omega (arith, at.blank.within, inv.filled.board.grid.long) in
    fewer_cells c.loop-cells.cells (get_or c.place.new.self.options c.args.x 0) cell c.first_of.ensures.there
    (own_gone g.row.M c.loop-cells.self c.place.new.self cell c.args.x within c.place.ensures)

pub loop-cells-preserved : goal.loop-cells-preserved
loop-cells-preserved g c =
    let m : ℕ = g.row.M in
    let inv = c.loop-cells.invariant in
    let cell : ℕ = c.first_of.result in
    let there = inv.inside cell c.first_of.ensures.there in
    record {
      filled = fill_step m c.args.self.now c.loop-cells.self c.place.new.self c.args.budget c.loop-cells.left c.args.singles cell c.args.x
          inv.filled inv.single c.requires.digit there.0 there.1 c.place.ensures;
      single = single_after m c.loop-cells.self c.place.new.self c.args.singles cell c.args.x inv.single c.place.ensures;
      inside = λ k stays.
          let parts = and_parts (has c.loop-cells.cells k) (has (get_or c.place.new.self.options c.args.x 0) k)
          (sym (has_and c.loop-cells.cells (get_or c.place.new.self.options c.args.x 0) k) ∙ stays) in
          ((inv.inside k parts.0).0, parts.1);
    }
