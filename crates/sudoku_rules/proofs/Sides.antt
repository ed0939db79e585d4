-- Rows, columns and boxes where a box's side is 2, 3 or 4: each law is shown at the three numerals.
use Rattle.std.proofs.Common.{◌≡◌, ◌<◌, ◌≤◌, ℕ, zero, suc, ◌+◌, ◌-◌, ◌*◌, ◌/◌, ◌^◌, true, cond, eqb, leb, [], ◌∷◌, length, get_or, refl}
use Rattle.std.proofs.Common.{sym, ap, ◌∙◌, subst, inl, inr, arith}
use Rattle.std.specs.List.{list_all}
use Rattle.std.proofs.lemmas.Bool.{cases_eq, cond-true, cond-false, eq-eqb, ne_eqb, eqb-true, and_parts, and_from, leb-true, le-leb}
use Rattle.sudoku_law.specs.Grid.{Cells, IsGrid, side, size, row_of, column_of}
use Rattle.sudoku_rules.specs.Sides.{IsSize, IsSudoku, box_for, box_side, is_sudoku, side_for}

-- what holds of 2, 3 and 4 holds of each between
pub each_side : (P : ℕ → Type 0) → P 2 → P 3 → P 4 → (m : ℕ) → 2 ≤ m → m ≤ 4 → P m
each_side P two three four zero low high = absurd (omega arith)
each_side P two three four (suc zero) low high = absurd (omega arith)
each_side P two three four (suc (suc zero)) low high = two
each_side P two three four (suc (suc (suc zero))) low high = three
each_side P two three four (suc (suc (suc (suc zero)))) low high = four
each_side P two three four (suc (suc (suc (suc (suc n))))) low high = absurd (omega arith)

-- a side is not 0
pub side_some : (m : ℕ) → 2 ≤ m → m ≤ 4 → 0 < side m
side_some m low high = each_side (λ m. 0 < side m) (omega arith) (omega arith) (omega arith) m low high

-- a side is at most 16
pub side_few : (m : ℕ) → 2 ≤ m → m ≤ 4 → side m ≤ 16
side_few m low high = each_side (λ m. side m ≤ 16) (omega arith) (omega arith) (omega arith) m low high

-- sides 4 and 9 have 81 cells at most
pub narrow_size : (m : ℕ) → 2 ≤ m → m ≤ 3 → size m ≤ 81
narrow_size m low high =
    each_side (λ m. m ≤ 3 → size m ≤ 81) (λ h. omega arith) (λ h. omega arith) (λ h. omega arith) m low (wider high) high
  where
    wider : {k : ℕ} → k ≤ 3 → k ≤ 4
    wider h = omega arith

-- the row of a cell is within the grid
pub row_within : (m : ℕ) → 2 ≤ m → m ≤ 4 → (cell : ℕ) → cell < size m → row_of m cell < side m
row_within m low high =
    each_side (λ m. (cell : ℕ) → cell < size m → row_of m cell < side m) (λ cell h. omega arith) (λ cell h. omega arith)
    (λ cell h. omega arith) m low high

-- the column of a cell is within the grid
pub column_within : (m : ℕ) → 2 ≤ m → m ≤ 4 → (cell : ℕ) → column_of m cell < side m
column_within m low high =
    each_side (λ m. (cell : ℕ) → column_of m cell < side m) (λ cell. omega arith) (λ cell. omega arith) (λ cell. omega arith) m low high

-- the box of a row and column is within the grid
pub box_place_within : (m : ℕ) → 2 ≤ m → m ≤ 4 → (row column : ℕ) → row < side m → column < side m → row / m * m + column / m < side m
box_place_within m low high =
    each_side (λ m. (row column : ℕ) → row < side m → column < side m → row / m * m + column / m < side m) (λ row column h k. omega arith)
    (λ row column h k. omega arith) (λ row column h k. omega arith) m low high

-- the row of the cell at a row and column
pub row_is : (m : ℕ) → 2 ≤ m → m ≤ 4 → (row column : ℕ) → column < side m → row_of m (row * side m + column) ≡ row
row_is m low high = each_side (λ m. (row column : ℕ) → column < side m → row_of m (row * side m + column) ≡ row)
    (λ row column h. omega arith) (λ row column h. omega arith) (λ row column h. omega arith) m low high

-- the column of the cell at a row and column
pub column_is : (m : ℕ) → 2 ≤ m → m ≤ 4 → (row column : ℕ) → column < side m → column_of m (row * side m + column) ≡ column
column_is m low high =
    each_side (λ m. (row column : ℕ) → column < side m → column_of m (row * side m + column) ≡ column) (λ row column h. omega arith)
    (λ row column h. omega arith) (λ row column h. omega arith) m low high

-- a cell is the one at its row and column
pub cell_is : (m : ℕ) → 2 ≤ m → m ≤ 4 → (cell : ℕ) → row_of m cell * side m + column_of m cell ≡ cell
cell_is m low high = each_side (λ m. (cell : ℕ) → row_of m cell * side m + column_of m cell ≡ cell) (λ cell. omega arith)
    (λ cell. omega arith) (λ cell. omega arith) m low high

-- the cell at a row and column is within the grid
pub cell_within : (m : ℕ) → 2 ≤ m → m ≤ 4 → (row column : ℕ) → row < side m → column < side m → row * side m + column < size m
cell_within m low high =
    each_side (λ m. (row column : ℕ) → row < side m → column < side m → row * side m + column < size m) (λ row column h k. omega arith)
    (λ row column h k. omega arith) (λ row column h k. omega arith) m low high

-- the next row begins a side later
pub next_row : (m : ℕ) → 2 ≤ m → m ≤ 4 → (row : ℕ) → row * side m + side m ≡ (row + 1) * side m
next_row m low high =
    each_side (λ m. (row : ℕ) → row * side m + side m ≡ (row + 1) * side m) (λ row. omega arith) (λ row. omega arith)
    (λ row. omega arith) m low high

-- as many ones as digits
pub all_digits : (m : ℕ) → 2 ≤ m → m ≤ 4 → 65535 / 2 ^ (16 - side m) ≡ 2 ^ side m - 1
all_digits m low high = each_side (λ m. 65535 / 2 ^ (16 - side m) ≡ 2 ^ side m - 1) refl refl refl m low high

-- The side is told by how many cells there are.

-- what holds of each side holds of the side for n cells
pub each_box : (P : ℕ → Type 0) → P 2 → P 3 → P 4 → (n : ℕ) → P (box_for n)
unfolding box_for
each_box P two three four n = elim (cases_eq n 16) [
  | inl small ↦ subst P (sym (cond-true (eqb n 16) 2 (cond (eqb n 81) 3 4) (eq-eqb n 16 small))) two
  | inr not_small ↦ subst P (sym (cond-false (eqb n 16) 2 (cond (eqb n 81) 3 4) (ne_eqb n 16 not_small))) (elim (cases_eq n 81) [
    | inl middle ↦ subst P (sym (cond-true (eqb n 81) 3 4 (eq-eqb n 81 middle))) three
    | inr large ↦ subst P (sym (cond-false (eqb n 81) 3 4 (ne_eqb n 81 large))) four
  ])
]

-- the side of a box is at least 2
pub box_low : (n : ℕ) → 2 ≤ box_for n
box_low n = each_box (λ m. 2 ≤ m) (omega arith) (omega arith) (omega arith) n

-- the side of a box is at most 4
pub box_high : (n : ℕ) → box_for n ≤ 4
box_high n = each_box (λ m. m ≤ 4) (omega arith) (omega arith) (omega arith) n

box_of_size : (m : ℕ) → 2 ≤ m → m ≤ 4 → box_for (size m) ≡ m
unfolding box_for
box_of_size m low high = each_side (λ m. box_for (size m) ≡ m) refl refl refl m low high

-- a grid tells the side of its boxes
pub box_is : (m : ℕ) → 2 ≤ m → m ≤ 4 → (g : Cells) → IsGrid m g → box_side g ≡ m
box_is m low high g is = ap box_for is.long ∙ box_of_size m low high

-- a grid of one of the three sides is one of a sudoku
pub grid_sudoku : (m : ℕ) → 2 ≤ m → m ≤ 4 → (g : Cells) → IsGrid m g → IsSudoku g
grid_sudoku m low high g is = subst (λ k. IsGrid k g) (sym (box_is m low high g is)) is

-- a size of a grid is the size for its side
pub size_is : (n : ℕ) → IsSize n → n ≡ size (box_for n)
unfolding box_for
size_is n (inl small) = subst (λ k. k ≡ size (box_for k)) (sym small) refl
size_is n (inr (inl middle)) = subst (λ k. k ≡ size (box_for k)) (sym middle) refl
size_is n (inr (inr large)) = subst (λ k. k ≡ size (box_for k)) (sym large) refl

-- a grid of a sudoku has 16, 81 or 256 cells
pub sudoku_size : (g : Cells) → IsSudoku g → IsSize (length g)
sudoku_size g is = each_box (λ m. length g ≡ size m → IsSize (length g)) (λ e. inl e) (λ e. inr (inl e)) (λ e. inr (inr e))
    (length g) is.long

-- a grid of a sudoku has at most 256 cells
pub sudoku_few : (g : Cells) → IsSudoku g → length g ≤ 256
sudoku_few g is = each_box (λ m. length g ≡ size m → length g ≤ 256) (λ e. omega arith) (λ e. omega arith) (λ e. omega arith)
    (length g) is.long

-- a cell of a sudoku is at most 16
pub sudoku_digit : (g : Cells) (k : ℕ) → IsSudoku g → k < length g → get_or g k 0 ≤ 16
sudoku_digit g k is within =
    let few : side (box_side g) ≤ 16 = side_few (box_side g) (box_low (length g)) (box_high (length g)) in
    omega (arith, is.digits k within, few)

-- a side is at most 16, whatever the number of cells
pub side_is : (n : ℕ) → side_for n ≤ 16
side_is n = side_few (box_for n) (box_low n) (box_high n)

-- a grid that is neither of the other two sides
pub sudoku_wide : (g : Cells) → IsSudoku g → (length g ≡ 16 → ⊥) → (length g ≡ 81 → ⊥) → length g ≡ 256
sudoku_wide g is not_small not_middle = elim (sudoku_size g is) [
  | inl small ↦ absurd (not_small small)
  | inr (inl middle) ↦ absurd (not_middle middle)
  | inr (inr large) ↦ large
]

-- a grid of this side's size is one of this side
pub as_grid : (m : ℕ) → 2 ≤ m → m ≤ 4 → (g : Cells) → IsSudoku g → length g ≡ size m → IsGrid m g
as_grid m low high g is long = subst (λ k. IsGrid k g) (ap box_for long ∙ box_of_size m low high) is

-- the side for the size of a side's grid
pub side_told : (m : ℕ) → 2 ≤ m → m ≤ 4 → (n : ℕ) → n ≡ size m → side m ≡ side_for n
side_told m low high n is = ap (λ k. side k) (sym (ap box_for is ∙ box_of_size m low high))

-- a size is at most 256
pub size_few : (n : ℕ) → IsSize n → n ≤ 256
size_few n (inl small) = omega arith
size_few n (inr (inl middle)) = omega arith
size_few n (inr (inr large)) = omega arith

-- The test.

low_from : (n : ℕ) (g : Cells) → list_all (λ d. leb d n) g ≡ true → (k : ℕ) → k < length g → get_or g k 0 ≤ n
low_from n [] all k within = absurd (omega arith)
low_from n (d ∷ g) all zero within = leb-true d n (and_parts (leb d n) (list_all (λ x. leb x n) g) all).0
low_from n (d ∷ g) all (suc k) within = low_from n g (and_parts (leb d n) (list_all (λ x. leb x n) g) all).1 k (omega arith)

from_low : (n : ℕ) (g : Cells) → ((k : ℕ) → k < length g → get_or g k 0 ≤ n) → list_all (λ d. leb d n) g ≡ true
from_low n [] low = refl
from_low n (d ∷ g) low =
    and_from (leb d n) (list_all (λ x. leb x n) g) (le-leb d n (low 0 (omega arith)))
    (from_low n g (λ k within. low (suc k) (omega arith)))

-- a grid that passes the test is one of a sudoku
pub test_sudoku : (g : Cells) → is_sudoku g ≡ true → IsSudoku g
test_sudoku g test =
    let parts = and_parts (eqb (length g) (size (box_side g))) (list_all (λ d. leb d (side (box_side g))) g) test in
    record { long = eqb-true (length g) (size (box_side g)) parts.0; digits = low_from (side (box_side g)) g parts.1 }

-- a grid of a sudoku passes the test
pub sudoku_test : (g : Cells) → IsSudoku g → is_sudoku g ≡ true
sudoku_test g is =
    and_from (eqb (length g) (size (box_side g))) (list_all (λ d. leb d (side (box_side g))) g)
    (eq-eqb (length g) (size (box_side g)) is.long) (from_low (side (box_side g)) g is.digits)
