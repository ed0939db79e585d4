-- A digit put at a blank cell where it is not used: the masks are those of the new grid, which has no conflict.
use Rattle.std.proofs.Common.{◌≡◌, ◌<◌, ◌≤◌, ℕ, ◌+◌, ◌-◌, ◌*◌, ◌^◌, Bool, true, false, cond, ◌&&◌, length, get_or, set, refl, sym, ap, ◌∙◌}
use Rattle.std.proofs.Common.{inl, inr, arith, eqb, List}
use Rattle.std.specs.Int.{bit_at}
use Rattle.std.specs.Int.Bits.{bit_or}
use Rattle.std.proofs.lemmas.Bool.{cases_eq, eq-eqb, ne_eqb, and_from, and_right, false_from_ne_true}
use Rattle.std.proofs.lemmas.List.{length-set, get_or-set_same, get_or-set_other, set-set, set-get_or}
use Rattle.std.proofs.lemmas.Nat.{and_le_l}
use Rattle.sudoku_law.specs.Grid.{Cells, IsBlank, HasConflict, row_of, column_of, box_of, side, size, shares, conflict, used}
use Rattle.sudoku_law.proofs.Below.{any_from}
use Rattle.sudoku_law.proofs.Sound.{set_grid}
use Rattle.sudoku_rules.specs.declared.marked.Marked.{Marked}
use Rattle.sudoku_rules.specs.declared.marked.Marks.{Marks}
use Rattle.sudoku_rules.specs.inside.Masks.{seen, IsMarked}
use Rattle.sudoku_rules.specs.inside.Marked.{IsBlankRow, AreBlanks, IsCarried, marks_at, put_at, put_back}
use Rattle.sudoku_rules.proofs.Sides.{side_few, row_within, column_within, box_place_within, row_is, column_is, cell_is}
use Rattle.sudoku_rules.proofs.AnyBelow.{eqb_comm, any_same}
use Rattle.sudoku_rules.proofs.Masks.{marked_at}
use Rattle.sudoku_rules.proofs.Conflict.{conflict_means, means_conflict}
use Rattle.sudoku_rules.proofs.Rest.{without, without_same, without_other}

-- which of two cells is named first does not matter
pub shares_swap : (m i j : ℕ) → shares m i j ≡ shares m j i
shares_swap m i j =
    rw (eqb_comm (row_of m i) (row_of m j), eqb_comm (column_of m i) (column_of m j), eqb_comm (box_of m i) (box_of m j)) refl

uses : (m : ℕ) (g : Cells) (cell j d : ℕ) → j < length g → shares m cell j ≡ true → get_or g j 0 ≡ d → used m g cell d ≡ true
uses m g cell j d within share has =
    any_from (length g) (λ i. shares m cell i && eqb (get_or g i 0) d) j within
    (and_from (shares m cell j) (eqb (get_or g j 0) d) share (eq-eqb (get_or g j 0) d has))

both_ways : {b : Bool} → b ≡ false → b ≡ true → ⊥
both_ways off on = let e : true ≡ false = sym on ∙ off in cc

-- no two cells clash after a candidate is placed
pub put_fine : (m : ℕ) (g : Cells) (cell d : ℕ) → IsBlank g cell → used m g cell d ≡ false → conflict m g ≡ false
    → conflict m (set g cell d) ≡ false
put_fine m g cell d blank unused fine =
    false_from_ne_true (conflict m (set g cell d)) (λ test. never (conflict_means m (set g cell d) test))
  where
    here : (k : ℕ) → k ≡ cell → get_or (set g cell d) k 0 ≡ d
    here k same = ap (λ i. get_or (set g cell d) i 0) same ∙ get_or-set_same g cell d 0 blank.within

    there : (k : ℕ) → (k ≡ cell → ⊥) → get_or (set g cell d) k 0 ≡ get_or g k 0
    there k differs = get_or-set_other g cell k d 0 differs

    never : HasConflict m (set g cell d) → ⊥
    never (i, j, before, within, share, same, some) =
        let inside : i < length g = omega (arith, length-set g cell d) in
        elim (cases_eq i cell) [
          | inl at_i ↦
              both_ways unused
              (uses m g cell j d (omega arith) (ap (λ k. shares m k j) (sym at_i) ∙ share)
              (sym (there j (λ e. omega arith)) ∙ sym same ∙ here i at_i))
          | inr not_i ↦ elim (cases_eq j cell) [
            | inl at_j ↦
                both_ways unused
                (uses m g cell i d inside (ap (λ k. shares m k i) (sym at_j) ∙ shares_swap m j i ∙ share)
                (sym (there i not_i) ∙ same ∙ here j at_j))
            | inr not_j ↦
                both_ways fine
                (means_conflict m g (
                  i,
                  j,
                  before,
                  inside,
                  share,
                  sym (there i not_i) ∙ same
                      ∙ there j not_j,
                  λ z. some (there i not_i ∙ z),
                ))
          ]
        ]

-- the marks of a group
marked_put : (m : ℕ) (group : ℕ → ℕ) (g : Cells) (n cell x : ℕ) (masks : List ℕ) → IsBlank g cell → cell < n → x < side m
    → group cell < side m → IsMarked m group g n masks
    → IsMarked m group (set g cell (x + 1)) n (set masks (group cell) (bit_or (get_or masks (group cell) 0) (2 ^ x)))
marked_put m group g n cell x masks blank below few within is =
    marked_at m group g (set g cell (x + 1)) n n (group cell) x masks few within seen_there seen_as_before is
  where
    has : get_or (set g cell (x + 1)) cell 0 ≡ x + 1
    has = get_or-set_same g cell (x + 1) 0 blank.within

    seen_there : (u k : ℕ) → u ≡ group cell → k ≡ x → seen group (set g cell (x + 1)) n u (k + 1) ≡ true
    seen_there u k same is_x =
        any_from n (λ j. eqb u (group j) && eqb (get_or (set g cell (x + 1)) j 0) (k + 1)) cell below
        (and_from (eqb u (group cell)) (eqb (get_or (set g cell (x + 1)) cell 0) (k + 1)) (eq-eqb u (group cell) same)
        (eq-eqb (get_or (set g cell (x + 1)) cell 0) (k + 1) (has ∙ ap (λ i. i + 1) (sym is_x))))

    seen_as_before : (u k : ℕ) → (eqb u (group cell) && eqb (x + 1) (k + 1)) ≡ false
        → seen group (set g cell (x + 1)) n u (k + 1) ≡ seen group g n u (k + 1)
    seen_as_before u k off =
        any_same n (λ j. eqb u (group j) && eqb (get_or (set g cell (x + 1)) j 0) (k + 1))
        (λ j. eqb u (group j) && eqb (get_or g j 0) (k + 1)) (λ j. elim (cases_eq j cell) [
          | inl same ↦
              ap (λ i. eqb u (group i) && eqb (get_or (set g cell (x + 1)) i 0) (k + 1)) same
              ∙ ap (λ v. eqb u (group cell) && eqb v (k + 1)) has
              ∙ off
              ∙ sym (and_right (eqb u (group j)) (eqb (get_or g j 0) (k + 1))
              (ne_eqb (get_or g j 0) (k + 1) (λ e. let z : get_or g j 0 ≡ 0 = ap (λ i. get_or g i 0) same ∙ blank.blank in omega arith)))
          | inr differs ↦ ap (λ v. eqb u (group j) && eqb v (k + 1)) (get_or-set_other g cell j (x + 1) 0 differs)
        ])

-- the blank cells
row_put : (m : ℕ) → 2 ≤ m → m ≤ 4 → (g : Cells) (cell v row mask : ℕ) → cell < length g → 0 < v → (row ≡ row_of m cell)
    → IsBlankRow m g row (side m) mask → IsBlankRow m (set g cell v) row (side m) (without mask (column_of m cell))
row_put m low high g cell v row mask within some same is = record {
  small = let le : without mask (column_of m cell) ≤ mask = and_le_l mask (65535 - 2 ^ column_of m cell) in omega (arith, is.small);
  bits = λ k few.
      let digits : side m ≤ 16 = side_few m low high in
      let column : column_of m cell < side m = column_within m low high cell in
      elim (cases_eq k (column_of m cell)) [
        | inl at ↦
            let place : row * side m + k ≡ cell =
            ap (λ r. r * side m + k) same ∙ ap (λ c. row_of m cell * side m + c) at ∙ cell_is m low high cell in
            ap (λ i. bit_at (without mask (column_of m cell)) i) at
            ∙ without_same mask (column_of m cell) (omega arith)
            ∙ sym (ap (λ b. cond b 1 0) (ne_eqb (get_or (set g cell v) (row * side m + k) 0) 0 (λ e.
            let has : get_or (set g cell v) (row * side m + k) 0 ≡ v =
            ap (λ i. get_or (set g cell v) i 0) place ∙ get_or-set_same g cell v 0 within in omega arith)))
        | inr differs ↦
            without_other mask (column_of m cell) k (omega arith) (omega arith) differs
            ∙ is.bits k few
            ∙ ap (λ d. cond (eqb d 0) 1 0)
            (sym (get_or-set_other g cell (row * side m + k) v 0
            (λ e. differs (sym (column_is m low high row k few) ∙ ap (λ i. column_of m i) e))))
      ];
}

row_kept : (m : ℕ) → 2 ≤ m → m ≤ 4 → (g : Cells) (cell v row mask : ℕ) → (row ≡ row_of m cell → ⊥) → IsBlankRow m g row (side m) mask
    → IsBlankRow m (set g cell v) row (side m) mask
row_kept m low high g cell v row mask differs is = record {
  small = is.small;
  bits = λ k few. is.bits k few
      ∙ ap (λ d. cond (eqb d 0) 1 0)
      (sym (get_or-set_other g cell (row * side m + k) v 0 (λ e. differs (sym (row_is m low high row k few) ∙ ap (λ i. row_of m i) e))));
}

blanks_put : (m : ℕ) → 2 ≤ m → m ≤ 4 → (g : Cells) (cell v : ℕ) (blanks : List ℕ) → cell < length g → cell < size m → 0 < v
    → AreBlanks m g blanks
    → AreBlanks m (set g cell v) (set blanks (row_of m cell) (without (get_or blanks (row_of m cell) 0) (column_of m cell)))
blanks_put m low high g cell v blanks within few some are = record {
  long = length-set blanks (row_of m cell) next ∙ are.long;
  rows = λ row below. elim (cases_eq row (row_of m cell)) [
    | inl same ↦
        let inside : row_of m cell < length blanks = omega (arith, are.long, row_within m low high cell few) in
        let e : get_or (set blanks (row_of m cell) next) row 0 ≡ next = ap (λ i. get_or (set blanks (row_of m cell) next) i 0) same
        ∙ get_or-set_same blanks (row_of m cell) next 0 inside in
        rw e (row_put m low high g cell v row (get_or blanks (row_of m cell) 0) within some same
        (rw same (are.rows (row_of m cell) (row_within m low high cell few))))
    | inr differs ↦
        rw (get_or-set_other blanks (row_of m cell) row next 0 differs)
        (row_kept m low high g cell v row (get_or blanks row 0) differs (are.rows row below))
  ];
}
  where
    next : ℕ
    next = without (get_or blanks (row_of m cell) 0) (column_of m cell)

-- a candidate put at a blank cell
pub put_carried : (m : ℕ) → 2 ≤ m → m ≤ 4 → {S C : ℕ} (w : Marked S C) (cell x : ℕ) → IsCarried m w → IsBlank w.cells cell → x < side m
    → used m w.cells cell (x + 1) ≡ false → IsCarried m (put_at m w cell x)
put_carried m low high w cell x is blank few unused =
    let within : cell < size m = omega (arith, is.grid.long, blank.within) in
    let fine : conflict m w.cells ≡ false = sym is.masks.clash ∙ is.fine in
    let same : length (set w.cells cell (x + 1)) ≡ length w.cells = length-set w.cells cell (x + 1) in
    let row : row_of m cell < side m = row_within m low high cell within in
    let column : column_of m cell < side m = column_within m low high cell in
    record {
      grid = set_grid m w.cells cell (x + 1) is.grid (omega arith);
      masks = record {
        rows = rw same (marked_put m (row_of m) w.cells (length w.cells) cell x w.masks.rows blank blank.within few row is.masks.rows);
        columns = rw same (marked_put m (column_of m) w.cells (length w.cells) cell x w.masks.columns blank blank.within few
            column is.masks.columns);
        boxes = rw same (marked_put m (box_of m) w.cells (length w.cells) cell x w.masks.boxes blank blank.within few
            (box_place_within m low high (row_of m cell) (column_of m cell) row column) is.masks.boxes);
        clash = is.fine ∙ sym (put_fine m w.cells cell (x + 1) blank unused fine);
      };
      fine = is.fine;
      blanks = blanks_put m low high w.cells cell (x + 1) w.blanks blank.within within (omega arith) is.blanks;
    }

-- and taken away
pub put_undone : (m : ℕ) {S C : ℕ} (w : Marked S C) (cell x : ℕ) → get_or w.cells cell 0 ≡ 0
    → put_back m (put_at m w cell x) cell (marks_at m w cell) ≡ w
put_undone m w cell x blank =
    rw (
      set-set w.cells cell (x + 1) 0,
      undone w.masks.rows (row_of m cell),
      undone w.masks.columns (column_of m cell),
      undone w.masks.boxes (box_of m cell),
      undone w.blanks (row_of m cell),
      cells_back,
    ) refl
  where
    undone : (xs : List ℕ) (i : ℕ) (v : ℕ) → set (set xs i v) i (get_or xs i 0) ≡ xs
    undone xs i v = set-set xs i v (get_or xs i 0) ∙ set-get_or xs i 0

    cells_back : set w.cells cell 0 ≡ w.cells
    cells_back = ap (λ v. set w.cells cell v) (sym blank) ∙ set-get_or w.cells cell 0

-- with the marks that stood around the cell
pub back_same : (m : ℕ) {S C : ℕ} (v n r p : Marked S C) (marks : Marks) (cell x : ℕ) → n ≡ put_at m v cell x → r ≡ n
    → marks ≡ marks_at m v cell → p ≡ put_back m r cell marks → get_or v.cells cell 0 ≡ 0 → p ≡ v
back_same m v n r p marks cell x is_n is_r is_marks is_p blank = is_p ∙ rw (is_r, is_n, is_marks) (put_undone m v cell x blank)
