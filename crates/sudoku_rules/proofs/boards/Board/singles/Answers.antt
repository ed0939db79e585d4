use Rattle.std.proofs.Common.{◌≡◌, true, false, sym, ◌∙◌}
use Rattle.sudoku_rules.proofs.PlaneBits.{has_none}
use Rattle.sudoku_rules.proofs.Filled.{single_cells}
use Rattle.sudoku_rules.proofs.boards.Board.singles.Goals as goal

pub returns-then-less-eq0 : goal.returns-then-less-eq0
returns-then-less-eq0 g c =
    single_cells c.args.self.now.options c.of-levels.result.one c.of-levels.result.two c.less-then-less-eq0.result
    c.of-levels.ensures.two c.less-then-less-eq0.ensures

pub returns-else-less-eq0 : goal.returns-else-less-eq0
returns-else-less-eq0 g c = λ k x y there first second. absurd (let e : true ≡ false = sym there ∙ has_none k in cc)
