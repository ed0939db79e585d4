-- Premises that the laws need: without each of them a law has a counterexample, which is computed here.
use Rattle.std.proofs.Common.{◌≡◌, ◌<◌, ◌≤◌, ◌==◌, ◌&&◌, ℕ, zero, suc, List, [], ◌∷◌, length, slice_index, true, refl, arith}
use Rattle.sudoku_law.specs.Grid.{Cells, HasEachOnce, IsSolution, any_below, box_of, column_of, count_up, fewest_below, how_many, row_of}
use Rattle.sudoku_law.specs.Tree.{at_cell, branches, grown, handed, is_over, solutions, tree}

-- a grid of one cell, blank and full
one_blank : Cells
one_blank = 0 ∷ []

one_full : Cells
one_full = 1 ∷ []

-- its one digit is there once in each group
each_once : (group : ℕ → ℕ) → group 0 ≡ 0 → HasEachOnce 1 group (1 ∷ [])
unfolding how_many
each_once group same zero (suc zero) below some fits = rw same refl
each_once group same (suc u) d below some fits = absurd (omega arith)
each_once group same zero zero below some fits = absurd (omega arith)
each_once group same zero (suc (suc d)) below some fits = absurd (omega arith)

keeps_blank : (cell : ℕ) → cell < 1 → (slice_index (0 ∷ []) cell ≡ 0 → ⊥) → slice_index (1 ∷ []) cell ≡ slice_index (0 ∷ []) cell
keeps_blank zero below given = absurd (given refl)
keeps_blank (suc cell) below given = absurd (omega arith)

has_digit : (cell : ℕ) → cell < 1 → (1 ≤ slice_index (1 ∷ []) cell) × (slice_index (1 ∷ []) cell ≤ 1)
has_digit zero below = (omega arith, omega arith)
has_digit (suc cell) below = absurd (omega arith)

-- a blank cell with a candidate leaves a solution: so `conflict_leaves_no_solution` needs that there is no candidate
pub blank_has_solution : IsSolution 1 (0 ∷ []) (1 ∷ [])
blank_has_solution = record {
  long = refl;
  keeps = keeps_blank;
  digits = has_digit;
  rows = each_once (row_of 1) refl;
  columns = each_once (column_of 1) refl;
  boxes = each_once (box_of 1) refl;
}

-- the tree of that grid without budget is over and has no solution node: so `tree_is_complete` needs that no node is over
pub spent_tree_is_over : is_over (tree 1 0 (0 ∷ [])) ≡ true
unfolding grown at_cell any_below fewest_below
spent_tree_is_over = refl

-- a tree without budget has no solution node
pub spent_tree_has_no_solution : solutions (tree 1 0 (0 ∷ [])) ≡ []
unfolding grown at_cell any_below fewest_below
spent_tree_has_no_solution = refl

-- the blank grid of 16 cells hands out 4 boards from a budget of 1: so the bound of `unit_adds_up` needs the greatest digit
pub hands_out_four : handed 0 (tree 2 1 (0 ∷ 0 ∷ 0 ∷ 0 ∷ 0 ∷ 0 ∷ 0 ∷ 0 ∷ 0 ∷ 0 ∷ 0 ∷ 0 ∷ 0 ∷ 0 ∷ 0 ∷ 0 ∷ [])) ≡ 4
unfolding grown at_cell branches any_below count_up fewest_below
hands_out_four = refl
