use Rattle.std.proofs.Common.{refl}
use Rattle.sudoku_rules.specs.Expansion.{met_of}
use Rattle.sudoku_rules.proofs.Sides.{box_is}
use Rattle.sudoku_rules.proofs.Walking.{both_nothing, node_dead}
use Rattle.sudoku_rules.proofs.expansion.work_cells.Goals as goal

pub returns-in-Some : goal.returns-in-Some
returns-in-Some g c =
    let told = box_is g.row.M c.requires.sized.low c.requires.sized.high c.args.cells.now c.requires.grid in
    rw (told, ← c.in-Some.ensures.1) c.work.ensures.met

pub returns-in-None : goal.returns-in-None
returns-in-None g c =
    let told = box_is g.row.M c.requires.sized.low c.requires.sized.high c.args.cells.now c.requires.grid in
    let dead = node_dead g.row.M c.args.grain c.args.budget c.args.cells.now c.in-None.ensures in
    rw (told, dead, both_nothing (met_of c.args.found.now)) refl
