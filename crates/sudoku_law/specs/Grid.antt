-- Sudoku's plain rules, for boxes of side m: a grid has m * m rows, columns and boxes of m * m cells each.
-- A grid is the list of its cells by rows, each the digit that is there or 0 for blank.
use Rattle.std.specs.Prelude.{◌≡◌, ◌≢◌, ◌<◌, ◌≤◌, ℕ, ◌+◌, ◌*◌, zero, suc, ◌/◌, ◌%◌, ◌==◌, nat_lt, Bool, false, ◌&&◌, ◌||◌, not, List, []}
use Rattle.std.specs.Prelude.{◌∷◌, length, slice_index, Option, Some, None, IsTrue, if◌then◌else◌, filter}

-- the cells of a grid, by rows
abbrev pub Cells : Type 0
Cells = List ℕ

-- how many rows, how many columns, how many boxes, and the greatest digit
abbrev pub side : ℕ → ℕ
side m = m * m

-- how many cells
abbrev pub size : ℕ → ℕ
size m = side m * side m

-- the row of a cell
abbrev pub row_of : ℕ → ℕ → ℕ
row_of m cell = cell / side m

-- the column of a cell
abbrev pub column_of : ℕ → ℕ → ℕ
column_of m cell = cell % side m

-- the box of a cell
abbrev pub box_of : ℕ → ℕ → ℕ
box_of m cell = row_of m cell / m * m + column_of m cell / m

-- how many of the numbers below n pass
unfoldable pub how_many : ℕ → (ℕ → Bool) → ℕ
how_many zero p = 0
how_many (suc n) p = how_many n p + (if p n then 1 else 0)

-- each digit is in exactly one cell of every group: group tells a cell's row, column or box
abbrev pub HasEachOnce : ℕ → (ℕ → ℕ) → Cells → Type 0
HasEachOnce m group s =
    (u d : ℕ) → u < side m → 1 ≤ d → d ≤ side m → how_many (size m) (λ cell. (group cell == u) && (slice_index s cell == d)) ≡ 1

-- a grid has a digit or 0 in each cell
pub record IsGrid (m : ℕ) (g : Cells) : Type 0 where
  pub long : length g ≡ size m
  pub digits : (cell : ℕ) → cell < length g → slice_index g cell ≤ side m

-- s keeps the givens of g, has a digit in each cell, and each digit once in every row, column and box
pub record IsSolution (m : ℕ) (g s : Cells) : Type 0 where
  pub long : length s ≡ size m
  pub keeps : (cell : ℕ) → cell < length g → slice_index g cell ≢ 0 → slice_index s cell ≡ slice_index g cell
  pub digits : (cell : ℕ) → cell < length s → (1 ≤ slice_index s cell) × (slice_index s cell ≤ side m)
  pub rows : HasEachOnce m (row_of m) s
  pub columns : HasEachOnce m (column_of m) s
  pub boxes : HasEachOnce m (box_of m) s

-- two cells are in one row, column or box
abbrev pub shares : ℕ → ℕ → ℕ → Bool
shares m i j = (row_of m i == row_of m j) || (column_of m i == column_of m j) || (box_of m i == box_of m j)

-- some number below n passes
unfoldable pub any_below : ℕ → (ℕ → Bool) → Bool
any_below zero p = false
any_below (suc n) p = p n || any_below n p

-- some row, column or box has a digit twice
abbrev pub HasConflict : ℕ → Cells → Type 0
HasConflict m g =
    (i : ℕ) × (j : ℕ) × (j < i) × (i < length g) × IsTrue (shares m i j) × (slice_index g i ≡ slice_index g j) × (slice_index g i ≢ 0)

-- the same as a test
abbrev pub clash : ℕ → Cells → ℕ → ℕ → Bool
clash m g i j = shares m i j && (slice_index g i == slice_index g j) && not (slice_index g i == 0)

-- some two cells clash
abbrev pub conflict : ℕ → Cells → Bool
conflict m g = any_below (length g) (λ i. any_below i (λ j. clash m g i j))

-- the digit is in the cell's row, column or box
abbrev pub used : ℕ → Cells → ℕ → ℕ → Bool
used m g cell d = any_below (length g) (λ j. shares m cell j && (slice_index g j == d))

-- the numbers from this one on, of this count
unfoldable pub count_up : ℕ → ℕ → List ℕ
count_up from zero = []
count_up from (suc n) = from ∷ count_up (from + 1) n

-- the digits that can go into a blank cell, rising
abbrev pub candidates : ℕ → Cells → ℕ → List ℕ
candidates m g cell = filter (λ d. not (used m g cell d)) (count_up 1 (side m))

-- how many candidates a cell has
abbrev pub choices : ℕ → Cells → ℕ → ℕ
choices m g cell = length (candidates m g cell)

-- the cell is one of the grid, and blank
pub record IsBlank (g : Cells) (cell : ℕ) : Type 0 where
  pub within : cell < length g
  pub blank : slice_index g cell ≡ 0

-- the blank cell with the fewest candidates, the first in reading order on a tie
pub record IsFewest (m : ℕ) (g : Cells) (cell : ℕ) : Type 0 where
  pub blank : IsBlank g cell
  pub least : (other : ℕ) → IsBlank g other → choices m g cell ≤ choices m g other
  pub first : (other : ℕ) → IsBlank g other → other < cell → choices m g cell < choices m g other

-- the same as a function: of the blank cells below n
abbrev pub fewer : ℕ → Cells → ℕ → Option ℕ → Option ℕ
fewer m g n None = if slice_index g n == 0 then Some n else None
fewer m g n (Some c) = if (slice_index g n == 0) && nat_lt (choices m g n) (choices m g c) then Some n else Some c

-- the first of the first n cells with the fewest candidates
unfoldable pub fewest_below : ℕ → Cells → ℕ → Option ℕ
fewest_below m g zero = None
fewest_below m g (suc n) = fewer m g n (fewest_below m g n)

-- the first blank cell with the fewest candidates
abbrev pub fewest : ℕ → Cells → Option ℕ
fewest m g = fewest_below m g (length g)
