use Rattle.std.proofs.Common.{◌≡◌, ◌<◌, ◌≤◌, ◌+◌, ◌-◌, ◌/◌, ◌∙◌, ℕ, Bool, false, get_or, set, refl, sym, ap, subst, arith, rules}
use Rattle.std.proofs.lemmas.Bool.{not-true}
use Rattle.sudoku_law.specs.Grid.{Cells, IsBlank, conflict, side, used}
use Rattle.sudoku_law.specs.Tree.{Met, both, hands_out, tree, walk}
use Rattle.sudoku_law.proofs.Below.{fewest_is_blank}
use Rattle.sudoku_rules.specs.declared.marked.Marked.{Marked}
use Rattle.sudoku_rules.specs.declared.expansion.Expansion.{Expansion}
use Rattle.sudoku_rules.specs.Expansion.{met_of}
use Rattle.sudoku_rules.specs.inside.Pieces.{handed_out}
use Rattle.sudoku_rules.specs.inside.Marked.{IsCarried, IsRest, put_at}
use Rattle.sudoku_rules.proofs.Walking.{at_digit, both_nothing, both_spent, node_full, node_over, node_open, no_candidates}
use Rattle.sudoku_rules.proofs.Sides.{grid_sudoku, side_few}
use Rattle.sudoku_rules.proofs.Carried.{back_same}
use Rattle.sudoku_rules.proofs.Children.{can, options_rest, child_met, all_met, digit_handed, digit_worked}
use Rattle.sudoku_rules.proofs.expansion.+work.Goals as goal
use Rattle.sudoku_rules.proofs.expansion.+work.Goals.{then-hands+in_ok-keep_child, else-hands+in_ok-work}

-- a carried grid has no conflict
fine_of : (m : ℕ) {S C : ℕ} (w : Marked S C) → IsCarried m w → conflict m w.cells ≡ false
fine_of m w is = sym is.masks.clash ∙ is.fine

pub returns-in_default-clause-met : goal.returns-in_default-clause-met
returns-in_default-clause-met g t c =
    let h : Cells = c.args.marked.now.cells in
    let full = node_full g.row.M c.args.grain c.args.budget h (fine_of g.row.M c.args.marked.now c.requires.carried) c.in_default.ensures in
    rw full c.keep_solution.ensures

pub returns-then-budget-eq0-clause-met : goal.returns-then-budget-eq0-clause-met
returns-then-budget-eq0-clause-met g t c =
    let found = met_of c.args.found.now in
    both_spent found
    ∙ sym (ap (λ m. both found m)
    (node_over g.row.M c.args.grain c.args.budget c.args.marked.now.cells c.in-Some.choice.cell
    (fine_of g.row.M c.args.marked.now c.requires.carried) c.in-Some.ensures.0 c.if-budget-eq0.true))

pub returns-then-choice-eq0-clause-met : goal.returns-then-choice-eq0-clause-met
returns-then-choice-eq0-clause-met g t c =
    let found = met_of c.args.found.now in
    let some : 0 < c.args.budget = omega arith in
    sym (ap (λ m. both found m)
    (no_candidates g.row.M c.args.grain c.args.budget c.args.marked.now.cells c.in-Some.choice.cell c.in-Some.choice.count
    (fine_of g.row.M c.args.marked.now c.requires.carried) c.in-Some.ensures.0 some c.in-Some.ensures.1.count c.if-choice-eq0.true)
    ∙ both_nothing found)

pub loop-left-init : goal.loop-left-init
loop-left-init g t c =
    let h : Cells = c.args.marked.now.cells in
    let some : 0 < c.args.budget = omega arith in
    record {
      from = 0;
      few = omega arith;
      rest = options_rest g.row.M h c.in-Some.choice.cell c.in-Some.choice.options c.in-Some.ensures.1.options;
      kept = refl;
      met = ap (λ m. both (met_of c.args.found.now) m)
          (node_open g.row.M c.args.grain c.args.budget h c.in-Some.choice.cell c.in-Some.choice.count
          (fine_of g.row.M c.args.marked.now c.requires.carried) c.in-Some.ensures.0 some c.in-Some.ensures.1.count);
    }

pub put-requires : goal.put-requires
put-requires g t c =
    let m : ℕ = g.row.M in
    let h : Cells = c.args.marked.now.cells in
    let cell : ℕ = c.in-Some.choice.cell in
    let x : ℕ = c.take_lowest.result in
    let digits : side m ≤ 16 = side_few m c.requires.sized.low c.requires.sized.high in
    let step = c.take_lowest.ensures.rest (side m) (λ d. can m h cell d) c.loop-left.invariant.from digits c.loop-left.invariant.rest in
    let few : x < side m = step.0.few in
    let unused : used m h cell (x + 1) ≡ false = not-true (used m h cell (x + 1)) step.0.passes in
    let blank : IsBlank h cell = fewest_is_blank m h cell c.in-Some.ensures.0 in
    let back : c.args.marked.now ≡ c.loop-left.marked = sym c.loop-left.invariant.kept in
    let carried : IsCarried m c.loop-left.marked = subst (λ (v : Marked g.row.SIDE g.row.CELLS). IsCarried m v) back c.requires.carried in
    let blank_now : IsBlank c.loop-left.marked.cells cell =
    subst (λ (v : Marked g.row.SIDE g.row.CELLS). IsBlank v.cells cell) back blank in
    let unused_now : used m c.loop-left.marked.cells cell (x + 1) ≡ false =
    subst (λ (v : Marked g.row.SIDE g.row.CELLS). used m v.cells cell (x + 1) ≡ false) back unused in
    (search rules, (c.requires.sized, (carried, (blank_now, (omega arith, (omega arith, unused_now))))))

pub loop-left-preserved : goal.loop-left-preserved
loop-left-preserved g t c =
    let m : ℕ = g.row.M in
    let h : Cells = c.args.marked.now.cells in
    let cell : ℕ = c.in-Some.choice.cell in
    let x : ℕ = c.take_lowest.result in
    let digits : side m ≤ 16 = side_few m c.requires.sized.low c.requires.sized.high in
    let step = c.take_lowest.ensures.rest (side m) (λ d. can m h cell d) c.loop-left.invariant.from digits c.loop-left.invariant.rest in
    let few : x < side m = step.0.few in
    let unused : used m h cell (x + 1) ≡ false = not-true (used m h cell (x + 1)) step.0.passes in
    let blank : IsBlank h cell = fewest_is_blank m h cell c.in-Some.ensures.0 in
    let share : ℕ = (c.args.budget - 1) / c.in-Some.choice.count in
    let w : Marked g.row.SIDE g.row.CELLS = c.args.marked.now in
    let inv = c.loop-left.invariant in
    let hands : Bool = hands_out c.args.grain c.args.budget c.in-Some.choice.count in
    let met : Met = met_of c.loop-left.found in
    let e : x + 1 - 1 ≡ x = omega arith in
    let put : c.put.new.self ≡ put_at m c.loop-left.marked cell x = c.put.ensures.after ∙ ap (λ k. put_at m c.loop-left.marked cell k) e in
    let cells : c.put.new.self.cells ≡ set h cell (x + 1) = ap (λ (v : Marked g.row.SIDE g.row.CELLS). v.cells) put
    ∙ ap (λ (v : Marked g.row.SIDE g.row.CELLS). set v.cells cell (x + 1)) inv.kept in
    let same : c.if-hands.marked ≡ c.put.new.self = elim c.if-hands.branch [
      | then-hands+in_ok-keep_child v ↦ v.marked-is
      | else-hands+in_ok-work v ↦ v.marked-is ∙ v.in_ok-work.ensures.kept
    ] in
    let blank_then : get_or c.loop-left.marked.cells cell 0 ≡ 0 =
    ap (λ (v : Marked g.row.SIDE g.row.CELLS). get_or v.cells cell 0) inv.kept ∙ blank.blank in
    let now : met_of c.if-hands.found ≡ both met (at_digit m hands c.args.grain share h cell (x + 1)) = elim c.if-hands.branch [
      | then-hands+in_ok-keep_child v ↦
          ap (λ (f : Expansion). met_of f) v.found-is
          ∙ v.in_ok-keep_child.ensures
          ∙ ap (λ (cs : Cells). both met (handed_out share cs)) cells
          ∙ ap (λ (d : Met). both met d)
          (digit_handed m hands c.args.grain share h cell (x + 1) unused (sym c.is_handing_out-hands.ensures ∙ v.if-hands.true))
      | else-hands+in_ok-work v ↦
          ap (λ (f : Expansion). met_of f) v.found-is
          ∙ v.in_ok-work.ensures.met
          ∙ ap (λ (cs : Cells). both met (walk c.args.grain (tree m share cs))) cells
          ∙ ap (λ (d : Met). both met d)
          (digit_worked m hands c.args.grain share h cell (x + 1) unused (sym c.is_handing_out-hands.ensures ∙ v.if-hands.false))
    ] in
    record {
      from = x + 1;
      few = omega arith;
      rest = step.1;
      kept = back_same m c.loop-left.marked c.put.new.self c.if-hands.marked c.put_back.new.self c.marks-marks.result cell x put same
          c.marks-marks.ensures c.put_back.ensures blank_then ∙ inv.kept;
      met = child_met m c.args.grain c.args.budget c.in-Some.choice.count share h cell inv.from x _ met
          (met_of c.if-hands.found) few step.0 now inv.met;
    }

pub returns-clause-met : goal.returns-clause-met
returns-clause-met g t c =
    let h : Cells = c.args.marked.now.cells in
    let choice = c.in-Some.choice in
    let inv = c.loop-left.invariant in
    all_met g.row.M c.args.grain c.args.budget choice.count ((c.args.budget - 1) / choice.count) h choice.cell inv.from _
    (met_of c.loop-left.found) inv.few
    (subst (λ v. IsRest (side g.row.M) (λ d. can g.row.M h choice.cell d) inv.from v) c.loop-left-test.false inv.rest) inv.met

pub keep_solution-requires : goal.keep_solution-requires
keep_solution-requires g t c =
    grid_sudoku g.row.M c.requires.sized.low c.requires.sized.high c.args.marked.now.cells c.requires.carried.grid

pub keep_child-requires : goal.keep_child-requires
keep_child-requires g t c = grid_sudoku g.row.M c.requires.sized.low c.requires.sized.high c.put.new.self.cells c.put.ensures.carried.grid
