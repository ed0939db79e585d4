use Rattle.std.proofs.Common.{◌≡◌, ◌<◌, ◌≤◌, ◌+◌, ◌-◌, ◌/◌, ◌∙◌, ℕ, Bool, false, true, get_or, set, sym, ap, subst, arith, rules}
use Rattle.std.proofs.lemmas.Bool.{not-true}
use Rattle.sudoku_law.specs.Grid.{Cells, IsGrid, side, used}
use Rattle.sudoku_law.specs.Tree.{Met, both, hands_out, tree, walk}
use Rattle.sudoku_law.proofs.Below.{fewest_is_blank}
use Rattle.sudoku_law.proofs.Sound.{set_grid}
use Rattle.sudoku_rules.specs.Expansion.{met_of}
use Rattle.sudoku_rules.specs.inside.Planes.{has}
use Rattle.sudoku_rules.specs.inside.Pieces.{handed_out}
use Rattle.sudoku_rules.specs.inside.Marked.{IsRest}
use Rattle.sudoku_rules.proofs.Walking.{at_digit, both_nothing, both_spent, node_full, node_over, node_open, no_candidates}
use Rattle.sudoku_rules.proofs.Sides.{grid_sudoku, side_few}
use Rattle.sudoku_rules.proofs.BoardSteps.{stands_test}
use Rattle.sudoku_rules.proofs.Children.{can, options_rest, child_met, all_met, digit_handed, digit_worked}
use Rattle.sudoku_rules.proofs.search.+search.Goals as goal

pub keep_solution-requires : goal.keep_solution-requires
keep_solution-requires g t c =
    grid_sudoku g.row.M c.requires.sized.low c.requires.sized.high c.args.board.now.cells c.requires.board.grid

pub returns-in_default : goal.returns-in_default
returns-in_default g t c =
    let full = node_full g.row.M c.args.grain c.args.budget c.args.board.now.cells c.requires.board.fine c.in_default.ensures in
    rw full c.keep_solution.ensures

pub returns-then-budget-eq0 : goal.returns-then-budget-eq0
returns-then-budget-eq0 g t c =
    let found = met_of c.args.found.now in
    both_spent found
    ∙ sym (ap (λ m. both found m)
    (node_over g.row.M c.args.grain c.args.budget c.args.board.now.cells c.in-Some.choice.cell c.requires.board.fine c.in-Some.ensures.0
    c.if-budget-eq0.true))

pub returns-then-choice-eq0 : goal.returns-then-choice-eq0
returns-then-choice-eq0 g t c =
    let found = met_of c.args.found.now in
    let some : 0 < c.args.budget = omega arith in
    sym (ap (λ m. both found m)
    (no_candidates g.row.M c.args.grain c.args.budget c.args.board.now.cells c.in-Some.choice.cell c.in-Some.choice.count
    c.requires.board.fine c.in-Some.ensures.0 some c.in-Some.ensures.1.count c.if-choice-eq0.true)
    ∙ both_nothing found)

pub loop-left-init : goal.loop-left-init
loop-left-init g t c =
    let h : Cells = c.args.board.now.cells in
    let some : 0 < c.args.budget = omega arith in
    record {
      from = 0;
      few = omega arith;
      rest = options_rest g.row.M h c.in-Some.choice.cell c.in-Some.choice.options c.in-Some.ensures.1.options;
      met = ap (λ m. both (met_of c.args.found.now) m)
          (node_open g.row.M c.args.grain c.args.budget h c.in-Some.choice.cell c.in-Some.choice.count c.requires.board.fine
          c.in-Some.ensures.0 some c.in-Some.ensures.1.count);
    }

pub with_digit-requires : goal.with_digit-requires
with_digit-requires g t c =
    omega (arith, c.in-Some.ensures.1.within, c.requires.board.grid.long, c.requires.sized.cells)

pub keep_child-requires : goal.keep_child-requires
keep_child-requires g t c =
    let m : ℕ = g.row.M in
    let h : Cells = c.args.board.now.cells in
    let digits : side m ≤ 16 = side_few m c.requires.sized.low c.requires.sized.high in
    let x : ℕ = c.take_lowest-x.result in
    let step = c.take_lowest-x.ensures.rest (side m) (λ d. can m h c.in-Some.choice.cell d) c.loop-left.invariant.from digits
    c.loop-left.invariant.rest in
    let few : x < side m = step.0.few in
    let grid : IsGrid m (set h c.in-Some.choice.cell (x + 1)) =
    set_grid m h c.in-Some.choice.cell (x + 1) c.requires.board.grid (omega arith) in
    grid_sudoku m c.requires.sized.low c.requires.sized.high c.with_digit.result
    (subst (λ (cs : Cells). IsGrid m cs) (sym c.with_digit.ensures) grid)

pub child-child-requires : goal.child-child-requires
child-child-requires g t c =
    let m : ℕ = g.row.M in
    let h : Cells = c.args.board.now.cells in
    let cell : ℕ = c.in-Some.choice.cell in
    let x : ℕ = c.take_lowest-x.result in
    let digits : side m ≤ 16 = side_few m c.requires.sized.low c.requires.sized.high in
    let step = c.take_lowest-x.ensures.rest (side m) (λ d. can m h cell d) c.loop-left.invariant.from digits c.loop-left.invariant.rest in
    let stands : has (get_or c.args.board.now.options x 0) cell ≡ true =
    stands_test m c.args.board.now x cell c.requires.board step.0.few (fewest_is_blank m h cell c.in-Some.ensures.0)
    (not-true (used m h cell (x + 1)) step.0.passes) in
    (search rules, (c.requires.sized, (c.requires.narrow, (c.requires.board, (step.0.few, stands)))))

pub loop-left-preserved-in-Continue-1 : goal.loop-left-preserved-in-Continue-1
loop-left-preserved-in-Continue-1 g t c =
    let m : ℕ = g.row.M in
    let h : Cells = c.args.board.now.cells in
    let cell : ℕ = c.in-Some.choice.cell in
    let x : ℕ = c.take_lowest-x.result in
    let digits : side m ≤ 16 = side_few m c.requires.sized.low c.requires.sized.high in
    let step = c.take_lowest-x.ensures.rest (side m) (λ d. can m h cell d) c.loop-left.invariant.from digits c.loop-left.invariant.rest in
    let few : x < side m = step.0.few in
    let unused : used m h cell (x + 1) ≡ false = not-true (used m h cell (x + 1)) step.0.passes in
    let share : ℕ = (c.args.budget - 1) / c.in-Some.choice.count in
    let inv = c.loop-left.invariant in
    let hands : Bool = hands_out c.args.grain c.args.budget c.in-Some.choice.count in
    let met : Met = met_of c.loop-left.found in
    let now : met_of c.keep_child.new.found ≡ both met (at_digit m hands c.args.grain share h cell (x + 1)) =
    c.in_ok-keep_child.ensures
    ∙ ap (λ (cs : Cells). both met (handed_out share cs)) c.with_digit.ensures
    ∙ ap (λ (d : Met). both met d)
    (digit_handed m hands c.args.grain share h cell (x + 1) unused (sym c.is_handing_out-hands.ensures ∙ c.if-hands.true)) in
    record {
      from = x + 1;
      few = omega arith;
      rest = step.1;
      met = child_met m c.args.grain c.args.budget c.in-Some.choice.count share h cell inv.from x _ met
          (met_of c.keep_child.new.found) few step.0 now inv.met;
    }

pub loop-left-preserved : goal.loop-left-preserved
loop-left-preserved g t c =
    let m : ℕ = g.row.M in
    let h : Cells = c.args.board.now.cells in
    let cell : ℕ = c.in-Some.choice.cell in
    let x : ℕ = c.take_lowest-x.result in
    let digits : side m ≤ 16 = side_few m c.requires.sized.low c.requires.sized.high in
    let step = c.take_lowest-x.ensures.rest (side m) (λ d. can m h cell d) c.loop-left.invariant.from digits c.loop-left.invariant.rest in
    let few : x < side m = step.0.few in
    let unused : used m h cell (x + 1) ≡ false = not-true (used m h cell (x + 1)) step.0.passes in
    let share : ℕ = (c.args.budget - 1) / c.in-Some.choice.count in
    let inv = c.loop-left.invariant in
    let hands : Bool = hands_out c.args.grain c.args.budget c.in-Some.choice.count in
    let met : Met = met_of c.loop-left.found in
    let now : met_of c.search.new.found ≡ both met (at_digit m hands c.args.grain share h cell (x + 1)) =
    c.in_ok-search.ensures
    ∙ ap (λ (d : Met). both met d) (sym (c.settle-rest.ensures.same c.args.grain))
    ∙ ap (λ (cs : Cells). both met (walk c.args.grain (tree m share cs))) c.child-child.ensures.cells
    ∙ ap (λ (d : Met). both met d)
    (digit_worked m hands c.args.grain share h cell (x + 1) unused (sym c.is_handing_out-hands.ensures ∙ c.if-hands.false)) in
    record {
      from = x + 1;
      few = omega arith;
      rest = step.1;
      met = child_met m c.args.grain c.args.budget c.in-Some.choice.count share h cell inv.from x _ met
          (met_of c.search.new.found) few step.0 now inv.met;
    }

pub returns : goal.returns
returns g t c =
    let h : Cells = c.args.board.now.cells in
    let choice = c.in-Some.choice in
    let inv = c.loop-left.invariant in
    all_met g.row.M c.args.grain c.args.budget choice.count ((c.args.budget - 1) / choice.count) h choice.cell inv.from _
    (met_of c.loop-left.found) inv.few
    (subst (λ v. IsRest (side g.row.M) (λ d. can g.row.M h choice.cell d) inv.from v) c.loop-left-test.false inv.rest) inv.met
