-- The definitions on small grids, by computation.
use Rattle.std.proofs.Common.{◌≡◌, true, [], ◌∷◌, refl}
use Rattle.sudoku_law.specs.Grid.{Cells, how_many, any_below, count_up, fewest_below}
use Rattle.sudoku_law.specs.Tree.{branches, at_cell, grown, tree, solutions, is_over, boards}

full : Cells
full = 1 ∷ 2 ∷ 3 ∷ 4 ∷ 3 ∷ 4 ∷ 1 ∷ 2 ∷ 2 ∷ 1 ∷ 4 ∷ 3 ∷ 4 ∷ 3 ∷ 2 ∷ 1 ∷ []

two : Cells
two = 0 ∷ 2 ∷ 0 ∷ 4 ∷ 0 ∷ 4 ∷ 0 ∷ 2 ∷ 2 ∷ 1 ∷ 4 ∷ 3 ∷ 4 ∷ 3 ∷ 2 ∷ 1 ∷ []

full_is_solved : solutions (tree 2 100 full) ≡ full ∷ []
unfolding full how_many any_below count_up fewest_below branches at_cell grown
full_is_solved = refl

two_boards : boards 16 (tree 2 1000 two) ≡ 3
unfolding two any_below count_up fewest_below branches at_cell grown
two_boards = refl

two_over : is_over (tree 2 1 two) ≡ true
unfolding two any_below count_up fewest_below branches at_cell grown
two_over = refl
