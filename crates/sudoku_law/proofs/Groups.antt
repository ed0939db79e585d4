-- Each row, column and box has as many cells as there are digits.
use Rattle.std.proofs.Common.{◌≡◌, ◌<◌, ℕ, ◌+◌, ◌*◌, ◌/◌, ◌%◌, sym, ap, ◌∙◌, arith, eqb}
use Rattle.std.proofs.lemmas.Nat.{div-mul-add, mod-mul-add}
use Rattle.sudoku_law.specs.Grid.{how_many, side, size, row_of, column_of, box_of}
use Rattle.sudoku_law.proofs.Ranges.{sum_to, one_if, how_many_is, sum_to_same, sum_to_scaled, sum_to_const, sum_to_rows, sum_to_is}

times_one : (n : ℕ) → n * 1 ≡ n
times_one n = omega arith

-- a count over w rows of w cells, by row and column
by_place : (w : ℕ) (group : ℕ → ℕ) (place : ℕ → ℕ → ℕ) (u : ℕ) → ((r c : ℕ) → r < w → c < w → group (r * w + c) ≡ place r c)
    → how_many (w * w) (λ cell. eqb (group cell) u) ≡ sum_to w (λ r. sum_to w (λ c. one_if (eqb (place r c) u)))
by_place w group place u is =
    how_many_is (w * w) (λ cell. eqb (group cell) u)
    ∙ sum_to_rows w w (λ cell. one_if (eqb (group cell) u))
    ∙ sum_to_same w
    (λ r. sum_to w (λ c. one_if (eqb (group (r * w + c)) u)))
    (λ r. sum_to w (λ c. one_if (eqb (place r c) u)))
    (λ r row. sum_to_same w
    (λ c. one_if (eqb (group (r * w + c)) u))
    (λ c. one_if (eqb (place r c) u))
    (λ c column. ap (λ k. one_if (eqb k u)) (is r c row column)))

rows_have : (w u : ℕ) → u < w → how_many (w * w) (λ cell. eqb (cell / w) u) ≡ w
rows_have w u within =
    by_place w (λ cell. cell / w) (λ r c. r) u (λ r c row column. div-mul-add r w c column)
    ∙ sum_to_same w
    (λ r. sum_to w (λ c. one_if (eqb r u)))
    (λ r. w * one_if (eqb r u))
    (λ r row. sum_to_const w (one_if (eqb r u)))
    ∙ sum_to_scaled w w (λ r. one_if (eqb r u))
    ∙ ap (λ k. w * k) (sum_to_is w u within)
    ∙ times_one w

columns_have : (w u : ℕ) → u < w → how_many (w * w) (λ cell. eqb (cell % w) u) ≡ w
columns_have w u within =
    by_place w (λ cell. cell % w) (λ r c. c) u (λ r c row column. mod-mul-add r w c column)
    ∙ sum_to_const w (sum_to w (λ c. one_if (eqb c u)))
    ∙ ap (λ k. w * k) (sum_to_is w u within)
    ∙ times_one w

-- a sum over m stripes of m numbers that sees the stripe alone
by_stripe : (m : ℕ) (f : ℕ → ℕ) → sum_to (m * m) (λ k. f (k / m)) ≡ m * sum_to m f
by_stripe m f =
    sum_to_rows m m (λ k. f (k / m))
    ∙ sum_to_same m
    (λ a. sum_to m (λ x. f ((a * m + x) / m)))
    (λ a. m * f a)
    (λ a stripe. sum_to_same m (λ x. f ((a * m + x) / m)) (λ x. f a) (λ x within. ap f (div-mul-add a m x within)) ∙ sum_to_const m (f a))
    ∙ sum_to_scaled m m f

boxes_have : (m u : ℕ) → u < m * m → how_many (m * m * (m * m)) (λ cell. eqb (cell / (m * m) / m * m + cell % (m * m) / m) u) ≡ m * m
boxes_have m u within =
    by_place (m * m) (λ cell. cell / (m * m) / m * m + cell % (m * m) / m) (λ r c. r / m * m + c / m) u
    (λ r c row column. box_is (div-mul-add r (m * m) c column) (mod-mul-add r (m * m) c column))
    ∙ sum_to_same (m * m)
    (λ r. sum_to (m * m) (λ c. one_if (eqb (r / m * m + c / m) u)))
    (λ r. m * sum_to m (λ b. one_if (eqb (r / m * m + b) u)))
    (λ r row. by_stripe m (λ b. one_if (eqb (r / m * m + b) u)))
    ∙ sum_to_scaled (m * m) m (λ r. sum_to m (λ b. one_if (eqb (r / m * m + b) u)))
    ∙ ap (λ k. m * k) (by_stripe m (λ a. sum_to m (λ b. one_if (eqb (a * m + b) u))))
    ∙ ap (λ k. m * (m * k)) (sym (sum_to_rows m m (λ k. one_if (eqb k u))) ∙ sum_to_is (m * m) u within)
    ∙ ap (λ k. m * k) (times_one m)
  where
    box_is : {r c x y : ℕ} → x ≡ r → y ≡ c → x / m * m + y / m ≡ r / m * m + c / m
    box_is e f = cc

-- the cells of a row, of a column and of a box
pub row_size : (m u : ℕ) → u < side m → how_many (size m) (λ cell. eqb (row_of m cell) u) ≡ side m
row_size m u within = rows_have (side m) u within

-- a column has as many cells as there are digits
pub column_size : (m u : ℕ) → u < side m → how_many (size m) (λ cell. eqb (column_of m cell) u) ≡ side m
column_size m u within = columns_have (side m) u within

-- a box has as many cells as there are digits
pub box_size : (m u : ℕ) → u < side m → how_many (size m) (λ cell. eqb (box_of m cell) u) ≡ side m
box_size m u within = boxes_have m u within
