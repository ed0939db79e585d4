-- The literal rule is that each digit is once in every row, column and box. The rule by pairs is that no two cells that share have one
-- digit. They say the same: as many cells as digits, and no two equal, so each digit is there once.
use Rattle.std.proofs.Common.{◌≡◌, ◌≢◌, ◌<◌, ◌≤◌, ℕ, zero, suc, ◌+◌, ◌*◌, ◌/◌, ◌%◌, Bool, true, false, ◌&&◌, eqb, length, get_or, refl, sym}
use Rattle.std.proofs.Common.{ap, ◌∙◌, inl, inr, arith}
use Rattle.std.proofs.lemmas.Bool.{and_from, and_parts, or_cases, or_left, or_right, eqb-true, eq-eqb, ne_eqb}
use Rattle.std.proofs.lemmas.Nat.{div_below, mod_below, mul-add-lt}
use Rattle.sudoku_law.specs.Grid.{Cells, how_many, side, size, row_of, column_of, box_of, shares, HasEachOnce, IsSolution}
use Rattle.sudoku_law.specs.Pairs.{IsPairwise}
use Rattle.sudoku_law.proofs.Ranges.{sum_to, one_if, how_many_is, sum_to_same, sum_to_one, sum_to_none, sum_to_turned, each_is_one}
use Rattle.sudoku_law.proofs.Ranges.{two_counted, few_counted}
use Rattle.sudoku_law.proofs.Groups.{row_size, column_size, box_size}

-- each cell below n has a digit up to w
abbrev HasDigits : ℕ → ℕ → Cells → Type 0
HasDigits n w s = (i : ℕ) → i < n → (1 ≤ get_or s i 0) × (get_or s i 0 ≤ w)

-- no two cells below n of one group have one digit
abbrev AreApart : ℕ → (ℕ → ℕ) → Cells → Type 0
AreApart n group s = (i j : ℕ) → j < i → i < n → group i ≡ group j → get_or s i 0 ≡ get_or s j 0 → ⊥

-- the cell holds the digit and is in the group
abbrev has : (ℕ → ℕ) → Cells → ℕ → ℕ → ℕ → Bool
has group s u d cell = eqb (group cell) u && eqb (get_or s cell 0) d

-- two cells of one group do not have one digit, if each digit is there once
once_apart : (m : ℕ) (group : ℕ → ℕ) (s : Cells) → length s ≡ size m → HasDigits (length s) (side m) s
    → ((i : ℕ) → i < size m → group i < side m) → HasEachOnce m group s → AreApart (length s) group s
once_apart m group s long digits within each i j before below same equal =
    let u : ℕ = group i in
    let d : ℕ = get_or s i 0 in
    let place : i < size m = below_size long below in
    let one : how_many (size m) (has group s u d) ≡ 1 = each u d (within i place) (digits i below).0 (digits i below).1 in
    let at_i : has group s u d i ≡ true = and_from _ _ (eq-eqb (group i) u refl) (eq-eqb (get_or s i 0) d refl) in
    let at_j : has group s u d j ≡ true = and_from _ _ (eq-eqb (group j) u (sym same)) (eq-eqb (get_or s j 0) d (sym equal)) in
    apart one (two_counted (size m) i j (has group s u d) before place at_i at_j)
  where
    below_size : {n k x : ℕ} → n ≡ k → x < n → x < k
    below_size e less = omega arith

    apart : {n : ℕ} → n ≡ 1 → 2 ≤ n → ⊥
    apart e less = omega arith

-- the rows, columns and boxes are as many as digits
row_below : (m i : ℕ) → i < size m → row_of m i < side m
row_below m i within = by_row (side m) i within
  where
    by_row : (w i : ℕ) → i < w * w → i / w < w
    by_row zero i within = absurd (omega arith)
    by_row (suc w) i within = div_below i (suc w) (suc w) (omega arith) within

column_below : (m i : ℕ) → i < size m → column_of m i < side m
column_below m i within = by_column (side m) i within
  where
    by_column : (w i : ℕ) → i < w * w → i % w < w
    by_column zero i within = absurd (omega arith)
    by_column (suc w) i within = mod_below i (suc w) (omega arith)

box_below : (m i : ℕ) → i < size m → box_of m i < side m
box_below m i within = joined m (row_of m i) (column_of m i) (row_below m i within) (column_below m i within)
  where
    joined : (m r c : ℕ) → r < m * m → c < m * m → r / m * m + c / m < m * m
    joined zero r c row column = absurd (omega arith)
    joined (suc m) r c row column = mul-add-lt (r / suc m) (suc m) (c / suc m) (suc m) (div_below r (suc m) (suc m) (omega arith) row)
        (div_below c (suc m) (suc m) (omega arith) column)

-- by the literal rule no two cells that share have one digit
pub pairwise_from_solution : (m : ℕ) (g s : Cells) → IsSolution m g s → IsPairwise m s
pairwise_from_solution m g s is = record {
  digits = is.digits;
  once = λ i j before below share equal. elim (or_cases _ _ share) [
    | inl line ↦ elim (or_cases _ _ line) [
      | inl by_row ↦ once_apart m (row_of m) s is.long is.digits (row_below m) is.rows i j before below (eqb-true _ _ by_row) equal
      | inr by_column ↦
          once_apart m (column_of m) s is.long is.digits (column_below m) is.columns i j before below (eqb-true _ _ by_column) equal
    ]
    | inr by_box ↦ once_apart m (box_of m) s is.long is.digits (box_below m) is.boxes i j before below (eqb-true _ _ by_box) equal
  ];
}

-- one digit from 1 to w is the one that is there, so over all of them a cell counts as often as the test says
digit_once : (w d : ℕ) (b : Bool) → 1 ≤ d → d ≤ w → sum_to w (λ k. one_if (b && eqb d (k + 1))) ≡ one_if b
digit_once w d false low high = sum_to_none w (λ k. 0) (λ k less. refl)
digit_once w (suc d) true low high =
    sum_to_one w d (λ k. one_if (eqb (suc d) (k + 1))) (omega arith)
    (λ k less differs. ap one_if (ne_eqb (suc d) (k + 1) (λ e. differs (omega arith))))
    ∙ ap one_if (eq-eqb (suc d) (d + 1) (omega arith))
digit_once w zero true low high = absurd (omega arith)

-- the counts of all digits in a group are together its number of cells
all_digits : (n w u : ℕ) (group : ℕ → ℕ) (s : Cells) → HasDigits n w s
    → sum_to w (λ k. how_many n (has group s u (k + 1))) ≡ how_many n (λ cell. eqb (group cell) u)
all_digits n w u group s digits =
    sum_to_same w
    (λ k. how_many n (has group s u (k + 1)))
    (λ k. sum_to n (λ cell. one_if (has group s u (k + 1) cell)))
    (λ k less. how_many_is n (has group s u (k + 1)))
    ∙ sum_to_turned w n (λ k cell. one_if (has group s u (k + 1) cell))
    ∙ sum_to_same n
    (λ cell. sum_to w (λ k. one_if (has group s u (k + 1) cell)))
    (λ cell. one_if (eqb (group cell) u))
    (λ cell less. digit_once w (get_or s cell 0) (eqb (group cell) u) (digits cell less).0 (digits cell less).1)
    ∙ sym (how_many_is n (λ cell. eqb (group cell) u))

-- in a group of w cells, no two of them equal, each of w digits is there once
each_stands : (n w u d : ℕ) (group : ℕ → ℕ) (s : Cells) → HasDigits n w s → AreApart n group s → how_many n (λ cell. eqb (group cell) u) ≡ w
    → 1 ≤ d → d ≤ w → how_many n (has group s u d) ≡ 1
each_stands n w u zero group s digits apart total low high = absurd (omega arith)
each_stands n w u (suc d) group s digits apart total low high =
    ap (λ k. how_many n (has group s u k)) (let e : suc d ≡ d + 1 = omega arith in e)
    ∙ each_is_one w d (λ k. how_many n (has group s u (k + 1))) (λ k less. few (k + 1))
    (all_digits n w u group s digits ∙ total) (omega arith)
  where
    few : (e : ℕ) → how_many n (has group s u e) ≤ 1
    few e = few_counted n (has group s u e)
        (λ i j before within first second.
        let a : (eqb (group i) u ≡ true) × (eqb (get_or s i 0) e ≡ true) = and_parts _ _ first in
        let b : (eqb (group j) u ≡ true) × (eqb (get_or s j 0) e ≡ true) = and_parts _ _ second in
        apart i j before within
        (eqb-true (group i) u a.0 ∙ sym (eqb-true (group j) u b.0))
        (eqb-true (get_or s i 0) e a.1 ∙ sym (eqb-true (get_or s j 0) e b.1)))

group_once : (m : ℕ) (group : ℕ → ℕ) (s : Cells) → length s ≡ size m → IsPairwise m s
    → ((i j : ℕ) → group i ≡ group j → shares m i j ≡ true)
    → ((u : ℕ) → u < side m → how_many (size m) (λ cell. eqb (group cell) u) ≡ side m) → HasEachOnce m group s
group_once m group s long is share total u d within low high =
    each_stands (size m) (side m) u d group s
    (λ i less. is.digits i (below_length long less))
    (λ i j before less same. is.once i j before (below_length long less) (share i j same))
    (total u within) low high
  where
    below_length : {n k x : ℕ} → n ≡ k → x < k → x < n
    below_length e less = omega arith

-- a full grid that keeps the givens and has no two equal cells that share is a solution by the literal rule
pub solution_from_pairwise : (m : ℕ) (g s : Cells) → length s ≡ size m
    → ((i : ℕ) → i < length g → get_or g i 0 ≢ 0 → get_or s i 0 ≡ get_or g i 0) → IsPairwise m s → IsSolution m g s
solution_from_pairwise m g s long keeps is = record {
  long = long;
  keeps = keeps;
  digits = is.digits;
  rows = group_once m (row_of m) s long is (λ i j e. or_left _ _ (or_left _ _ (eq-eqb (row_of m i) (row_of m j) e))) (row_size m);
  columns = group_once m (column_of m) s long is (λ i j e. or_left _ _ (or_right _ _ (eq-eqb (column_of m i) (column_of m j) e)))
      (column_size m);
  boxes = group_once m (box_of m) s long is (λ i j e. or_right _ _ (eq-eqb (box_of m i) (box_of m j) e)) (box_size m);
}
