use Rattle.std.proofs.Common.{refl}
use Rattle.sudoku_rules.specs.Expansion.{met_of}
use Rattle.sudoku_rules.proofs.Sides.{box_is}
use Rattle.sudoku_rules.proofs.Walking.{both_nothing, node_dead}
use Rattle.sudoku_rules.proofs.search.search_cells.Goals as goal

pub returns : goal.returns
returns g c =
    let told = box_is g.row.M c.requires.sized.low c.requires.sized.high c.args.cells.now c.requires.grid in
    rw (told, ← c.in-Some.ensures.1, c.settle-left.ensures.same c.args.grain) c.search.ensures

pub returns-in_default : goal.returns-in_default
returns-in_default g c =
    let told = box_is g.row.M c.requires.sized.low c.requires.sized.high c.args.cells.now c.requires.grid in
    let dead = node_dead g.row.M c.args.grain c.args.budget c.args.cells.now c.in_default.ensures in
    rw (told, dead, both_nothing (met_of c.args.found.now)) refl
