-- Queens on a board: the column of the queen in each row so far.
use Rattle.std.specs.Prelude.{ℕ, zero, suc, ◌+◌, ◌-◌, ◌==◌, ◌&&◌, not, Bool, true, cond, List, [], ◌∷◌, ◌++◌, length, sum_by}
use Rattle.std.specs.List.{range_with_len}

-- how far apart two columns are
abbrev pub apart : ℕ → ℕ → ℕ
apart a b = (a - b) + (b - a)

-- no queen of the board attacks this column of the next row: none is in the column, nor on a diagonal of it
abbrev pub is_safe : List ℕ → ℕ → Bool
is_safe [] column = true
is_safe (queen ∷ board) column =
    not (apart queen column == 0) && (not (apart queen column == length board + 1) && is_safe board column)

-- how many boards of this side extend the board by this number of rows
unfoldable pub extensions : ℕ → ℕ → List ℕ → ℕ
extensions zero side board = 1
extensions (suc rows) side board =
    sum_by (λ column. cond (is_safe board column) (extensions rows side (board ++ column ∷ [])) 0) (range_with_len 0 side)

-- how many full boards extend the board
abbrev pub placements : ℕ → List ℕ → ℕ
placements side board = extensions (side - length board) side board
