-- A grid with its planes: how they are made, what a digit that is put changes, and the cell with the fewest candidates.
use Rattle.std.proofs.Common.{◌≡◌, ◌<◌, ◌≤◌, ℕ, zero, suc, ◌+◌, ◌^◌, Bool, true, false, cond, ◌&&◌, ◌||◌, not, List, length, get_or, set}
use Rattle.std.proofs.Common.{replicate, Some, None, refl, sym, ap, ◌∙◌, inl, inr, arith, eqb, ltb, leb, add-one, subst}
use Rattle.std.specs.Int.{bit_at}
use Rattle.std.specs.Int.Bits.{bit_and, bit_or}
use Rattle.std.specs.Int.Count.{ones}
use Rattle.std.proofs.Math.Bool.{or_comm, or-false}
use Rattle.std.proofs.lemmas.Bool.{cases_Bool, cases_eq, cases_lt, eq-eqb, ne_eqb, eqb-true, lt-ltb, le-ltb, ltb-true, leb-true, leb-false}
use Rattle.std.proofs.lemmas.Bool.{and_left, and_right, and_parts, and_from, or_left, not-true}
use Rattle.std.proofs.lemmas.List.{length-set, length-replicate, get_or-set_same, get_or-set_other, get_or-replicate}
use Rattle.std.proofs.lemmas.Nat.{and_le_l}
use Rattle.sudoku_law.specs.Grid.{Cells, IsBlank, IsGrid, any_below, box_of, choices, clash, column_of, conflict, fewest, how_many, row_of}
use Rattle.sudoku_law.specs.Grid.{shares, side, size, used}
use Rattle.sudoku_law.proofs.Exact.{fewest_from, none_exact}
use Rattle.sudoku_law.proofs.Sound.{set_grid}
use Rattle.sudoku_rules.specs.declared.boards.Board.{Board}
use Rattle.sudoku_rules.specs.declared.boards.Seen.{Seen}
use Rattle.sudoku_rules.specs.inside.Masks.{AreOptions, IsBest}
use Rattle.sudoku_rules.specs.inside.Planes.{AreFewest, has, many}
use Rattle.sudoku_rules.specs.inside.Boards.{AreSeen, IsBoard, IsLeft, IsPlaced, can_stand, is_blank}
use Rattle.sudoku_rules.proofs.AnyBelow.{and_true}
use Rattle.sudoku_rules.proofs.Alone.{choices_are, is_free, used_put}
use Rattle.sudoku_rules.proofs.Carried.{put_fine}
use Rattle.sudoku_rules.proofs.Counted.{options_count}
use Rattle.sudoku_rules.proofs.Masks.{clash_here, clashes_more, near, no_clash}
use Rattle.sudoku_rules.proofs.PlaneBits.{cell_test, has_and, has_none, has_one, has_or}

-- Blank cells.

-- the test of a blank cell tells one
pub blank_is : (g : Cells) (k : ℕ) → is_blank g k ≡ true → IsBlank g k
blank_is g k test =
    let parts = and_parts (ltb k (length g)) (eqb (get_or g k 0) 0) test in
    record { within = ltb-true k (length g) parts.0; blank = eqb-true (get_or g k 0) 0 parts.1 }

-- and each is told
pub blank_test : (g : Cells) (k : ℕ) → IsBlank g k → is_blank g k ≡ true
blank_test g k is = and_from (ltb k (length g)) (eqb (get_or g k 0) 0) (lt-ltb k (length g) is.within) (eq-eqb (get_or g k 0) 0 is.blank)

blank_after : (g : Cells) (cell x k : ℕ) → cell < length g → is_blank (set g cell (x + 1)) k ≡ (is_blank g k && not (eqb k cell))
blank_after g cell x k within = elim (cases_eq k cell) [
  | inl same ↦
      and_right (ltb k (length (set g cell (x + 1)))) (eqb (get_or (set g cell (x + 1)) k 0) 0)
      (ne_eqb (get_or (set g cell (x + 1)) k 0) 0 (λ e.
      let at : get_or (set g cell (x + 1)) k 0 ≡ x + 1 =
      ap (λ i. get_or (set g cell (x + 1)) i 0) same ∙ get_or-set_same g cell (x + 1) 0 within in omega (arith, at, e)))
      ∙ sym (and_right (is_blank g k) (not (eqb k cell)) (ap not (eq-eqb k cell same)))
  | inr differs ↦
      ap (λ n. ltb k n && eqb (get_or (set g cell (x + 1)) k 0) 0) (length-set g cell (x + 1))
      ∙ ap (λ v. ltb k (length g) && eqb v 0) (get_or-set_other g cell k (x + 1) 0 differs)
      ∙ sym (ap (λ b. is_blank g k && not b) (ne_eqb k cell differs) ∙ and_true (is_blank g k))
]

-- A digit that is put.

shares_self : (m cell : ℕ) → shares m cell cell ≡ true
shares_self m cell =
    or_left (eqb (row_of m cell) (row_of m cell) || eqb (column_of m cell) (column_of m cell)) (eqb (box_of m cell) (box_of m cell))
    (or_left (eqb (row_of m cell) (row_of m cell)) (eqb (column_of m cell) (column_of m cell))
    (eq-eqb (row_of m cell) (row_of m cell) refl))

-- a digit can go there
pub record Stands (m : ℕ) (g : Cells) (x cell : ℕ) : Type 0 where
  pub blank : IsBlank g cell
  pub unused : used m g cell (x + 1) ≡ false

-- where a plane has a cell its digit can go there
pub stands_is : (m : ℕ) {S C : ℕ} (w : Board S C) (x cell : ℕ) → IsBoard m w → x < side m → has (get_or w.options x 0) cell ≡ true
    → Stands m w.cells x cell
stands_is m w x cell is digit stands =
    let parts = and_parts (is_blank w.cells cell) (not (used m w.cells cell (x + 1))) (sym (is.options x cell digit) ∙ stands) in
    record { blank = blank_is w.cells cell parts.0; unused = not-true (used m w.cells cell (x + 1)) parts.1 }

-- and where a digit can go its plane has the cell
pub stands_test : (m : ℕ) {S C : ℕ} (w : Board S C) (x cell : ℕ) → IsBoard m w → x < side m → IsBlank w.cells cell
    → used m w.cells cell (x + 1) ≡ false → has (get_or w.options x 0) cell ≡ true
stands_test m w x cell is digit blank unused =
    is.options x cell digit
    ∙ and_from (is_blank w.cells cell) (not (used m w.cells cell (x + 1))) (blank_test w.cells cell blank) (ap not unused)

-- a board but for the cell where a digit x + 1 is to be put: no other digit can go there
pub record IsNear {S C : ℕ} (w almost : Board S C) (cell x : ℕ) : Type 0 where
  pub cells : almost.cells ≡ w.cells
  pub blank : almost.blank ≡ w.blank
  pub long : length almost.options ≡ length w.options
  pub elsewhere : (y k : ℕ) → (k ≡ cell → ⊥) → has (get_or almost.options y 0) k ≡ has (get_or w.options y 0) k
  pub alone : (y : ℕ) → (y ≡ x → ⊥) → has (get_or almost.options y 0) cell ≡ false

-- a board where no other digit can go to the cell
pub near_itself : {S C : ℕ} (w : Board S C) (cell x : ℕ) → ((y : ℕ) → (y ≡ x → ⊥) → has (get_or w.options y 0) cell ≡ false)
    → IsNear w w cell x
near_itself w cell x alone = record {
  cells = refl;
  blank = refl;
  long = refl;
  elsewhere = λ y k differs. refl;
  alone = alone;
}

-- a board where no digit can go to the cell any more
pub near_left : {S C : ℕ} (w almost : Board S C) (cell x : ℕ) → IsLeft w almost cell → IsNear w almost cell x
near_left w almost cell x is = record {
  cells = is.cells;
  blank = is.blank;
  long = is.long;
  elsewhere = λ y k differs.
      is.options y k
      ∙ ap (λ b. has (get_or w.options y 0) k && not b) (ne_eqb k cell differs)
      ∙ and_true (has (get_or w.options y 0) k);
  alone = λ y differs.
      is.options y cell
      ∙ and_right (has (get_or w.options y 0) cell) (not (eqb cell cell)) (ap not (eq-eqb cell cell refl));
}

apart : (b u s l : Bool) → (b ≡ true → l ≡ true) → ((b && not u) && not (l && s)) ≡ (b && not (u || s))
apart true true s l on = refl
apart true false s l on = ap (λ t. not (t && s)) (on refl)
apart false u s l on = refl

-- where a digit can go after another is put, at the cell and elsewhere
stand_here : (m : ℕ) (g : Cells) (cell x y k : ℕ) → cell < length g → k ≡ cell → can_stand m (set g cell (x + 1)) y k ≡ false
stand_here m g cell x y k within same =
    and_left (is_blank (set g cell (x + 1)) k) (not (used m (set g cell (x + 1)) k (y + 1)))
    (blank_after g cell x k within ∙ and_right (is_blank g k) (not (eqb k cell)) (ap not (eq-eqb k cell same)))

stand_there : (m : ℕ) (g : Cells) (cell x y k : ℕ) → IsBlank g cell → (k ≡ cell → ⊥)
    → can_stand m (set g cell (x + 1)) y k ≡ (is_blank g k && not (used m g k (y + 1) || (shares m k cell && eqb (x + 1) (y + 1))))
stand_there m g cell x y k blank differs =
    ap (λ b. b && not (used m (set g cell (x + 1)) k (y + 1)))
    (blank_after g cell x k blank.within ∙ ap (λ b. is_blank g k && not b) (ne_eqb k cell differs) ∙ and_true (is_blank g k))
    ∙ ap (λ u. is_blank g k && not u) (used_put m g cell (x + 1) k (y + 1) blank (omega arith))

stand_own : (m : ℕ) (g : Cells) (cell x k : ℕ) → length g ≡ size m → IsBlank g cell → (k ≡ cell → ⊥)
    → (can_stand m g x k && not (ltb k (size m) && shares m k cell)) ≡ can_stand m (set g cell (x + 1)) x k
stand_own m g cell x k long blank differs =
    apart (is_blank g k) (used m g k (x + 1)) (shares m k cell) (ltb k (size m))
    (λ test. lt-ltb k (size m) (omega (arith, (blank_is g k test).within, long)))
    ∙ sym (stand_there m g cell x x k blank differs
    ∙ ap (λ b. is_blank g k && not (used m g k (x + 1) || (shares m k cell && b))) (eq-eqb (x + 1) (x + 1) refl)
    ∙ ap (λ b. is_blank g k && not (used m g k (x + 1) || b)) (and_true (shares m k cell)))

stand_other : (m : ℕ) (g : Cells) (cell x y k : ℕ) → IsBlank g cell → (k ≡ cell → ⊥) → (y ≡ x → ⊥)
    → can_stand m g y k ≡ can_stand m (set g cell (x + 1)) y k
stand_other m g cell x y k blank differs other =
    sym (stand_there m g cell x y k blank differs
    ∙ ap (λ b. is_blank g k && not (used m g k (y + 1) || b))
    (and_right (shares m k cell) (eqb (x + 1) (y + 1)) (ne_eqb (x + 1) (y + 1) (λ e. other (omega arith))))
    ∙ ap (λ u. is_blank g k && not u) (or-false (used m g k (y + 1))))

-- the board with the digit
pub place_board : (m : ℕ) {S C : ℕ} (w almost after : Board S C) (cell x : ℕ) → IsBoard m w → IsNear w almost cell x → x < side m
    → Stands m w.cells x cell → IsPlaced m almost after cell x → IsBoard m after
place_board m w almost after cell x is close digit stands placed = record {
  grid = subst (λ (g : Cells). IsGrid m g) (sym cells_are) (set_grid m w.cells cell (x + 1) is.grid (omega arith));
  fine = ap (λ (g : Cells). conflict m g) cells_are ∙ put_fine m w.cells cell (x + 1) stands.blank stands.unused is.fine;
  long = placed.long ∙ close.long ∙ is.long;
  blank = λ k.
      placed.blank k
      ∙ ap (λ p. has p k && not (eqb k cell)) close.blank
      ∙ ap (λ b. b && not (eqb k cell)) (is.blank k)
      ∙ sym (ap (λ (g : Cells). is_blank g k) cells_are ∙ blank_after w.cells cell x k stands.blank.within);
  options = λ y k below. planes y k below ∙ sym (ap (λ (g : Cells). can_stand m g y k) cells_are);
}
  where
    cells_are : after.cells ≡ set w.cells cell (x + 1)
    cells_are = placed.cells ∙ ap (λ (g : Cells). set g cell (x + 1)) close.cells

    within : cell < size m
    within = omega (arith, stands.blank.within, is.grid.long)

    own : (k : ℕ) → has (get_or after.options x 0) k ≡ can_stand m (set w.cells cell (x + 1)) x k
    own k = placed.own k ∙ elim (cases_eq k cell) [
      | inl same ↦
          and_right (has (get_or almost.options x 0) k) (not (ltb k (size m) && shares m k cell))
          (ap (λ i. not (ltb i (size m) && shares m i cell)) same
          ∙ ap (λ b. not (b && shares m cell cell)) (lt-ltb cell (size m) within)
          ∙ ap not (shares_self m cell))
          ∙ sym (stand_here m w.cells cell x x k stands.blank.within same)
      | inr differs ↦
          ap (λ b. b && not (ltb k (size m) && shares m k cell)) (close.elsewhere x k differs ∙ is.options x k digit)
          ∙ stand_own m w.cells cell x k is.grid.long stands.blank differs
    ]

    planes : (y k : ℕ) → y < side m → has (get_or after.options y 0) k ≡ can_stand m (set w.cells cell (x + 1)) y k
    planes y k below = elim (cases_eq y x) [
      | inl same ↦
          ap (λ i. has (get_or after.options i 0) k) same ∙ own k
          ∙ ap (λ i. can_stand m (set w.cells cell (x + 1)) i k) (sym same)
      | inr other ↦ ap (λ p. has p k) (placed.others y other) ∙ elim (cases_eq k cell) [
        | inl same ↦
            ap (λ i. has (get_or almost.options y 0) i) same
            ∙ close.alone y other
            ∙ sym (stand_here m w.cells cell x y k stands.blank.within same)
        | inr differs ↦
            close.elsewhere y k differs ∙ is.options y k below ∙ stand_other m w.cells cell x y k stands.blank differs other
      ]
    ]

-- the digit's plane loses the cell
pub own_gone : (m : ℕ) {S C : ℕ} (w after : Board S C) (cell x : ℕ) → cell < size m → IsPlaced m w after cell x
    → has (get_or after.options x 0) cell ≡ false
own_gone m w after cell x within placed =
    placed.own cell
    ∙ and_right (has (get_or w.options x 0) cell) (not (ltb cell (size m) && shares m cell cell))
    (ap (λ b. not (b && shares m cell cell)) (lt-ltb cell (size m) within) ∙ ap not (shares_self m cell))

-- and no plane has more cells
pub none_new : (m : ℕ) {S C : ℕ} (w after : Board S C) (cell x y k : ℕ) → IsPlaced m w after cell x
    → has (get_or after.options y 0) k ≡ true → has (get_or w.options y 0) k ≡ true
none_new m w after cell x y k placed is = elim (cases_eq y x) [
  | inl same ↦
      ap (λ i. has (get_or w.options i 0) k) same
      ∙ (and_parts (has (get_or w.options x 0) k) (not (ltb k (size m) && shares m k cell))
      (sym (placed.own k) ∙ ap (λ i. has (get_or after.options i 0) k) (sym same) ∙ is)).0
  | inr other ↦ sym (ap (λ p. has p k) (placed.others y other)) ∙ is
]

-- Cells looked at one after the other.

any_more : (n : ℕ) (p : ℕ → Bool) → any_below (n + 1) p ≡ (p n || any_below n p)
unfolding any_below
any_more n p = rw add-one refl

less_more : (k n : ℕ) → (k ≡ n → ⊥) → ltb k (n + 1) ≡ ltb k n
less_more k n differs = elim (cases_lt k n) [
  | inl less ↦ lt-ltb k (n + 1) (omega arith) ∙ sym (lt-ltb k n less)
  | inr more ↦ le-ltb k (n + 1) (omega arith) ∙ sym (le-ltb k n more)
]

-- before the first cell nothing is ruled out
pub seen_none : (m : ℕ) {S : ℕ} (g : Cells) → S ≡ side m
    → AreSeen m {S = S} g 0 (record { planes = replicate S 0; blank = 0; clash = false })
unfolding any_below
seen_none m {S} g same = record {
  long = length-replicate {A = ℕ} S 0 ∙ same;
  planes = λ x k below few. ap (λ p. has p k) (get_or-replicate S x 0 0 (omega (arith, below, same))) ∙ has_none k;
  blank = λ k. has_none k ∙ sym (and_left (ltb k 0) (eqb (get_or g k 0) 0) (le-ltb k 0 (omega arith)));
  clash = refl;
}

-- one more cell, which is blank
pub seen_blank : (m : ℕ) {S : ℕ} (g : Cells) (n : ℕ) (seen : Seen S) → get_or g n 0 ≡ 0 → AreSeen m g n seen
    → AreSeen m {S = S} g (n + 1) (record { planes = seen.planes; blank = bit_or seen.blank (2 ^ n); clash = seen.clash })
seen_blank m g n seen none is = record {
  long = is.long;
  planes = λ x k below few.
      is.planes x k below few
      ∙ sym (any_more n (λ j. shares m k j && eqb (get_or g j 0) (x + 1))
      ∙ ap (λ b. b || near m g n k (x + 1))
      (and_right (shares m k n) (eqb (get_or g n 0) (x + 1)) (ne_eqb (get_or g n 0) (x + 1) (λ e. omega (arith, none, e)))));
  blank = λ k.
      has_or seen.blank (2 ^ n) k
      ∙ ap (λ b. b || has (2 ^ n) k) (is.blank k)
      ∙ ap (λ b. (ltb k n && eqb (get_or g k 0) 0) || b) (has_one n k)
      ∙ elim (cases_eq k n) [
        | inl same ↦
            ap (λ b. (ltb k n && eqb (get_or g k 0) 0) || b) (eq-eqb k n same)
            ∙ or_comm (ltb k n && eqb (get_or g k 0) 0) true
            ∙ sym (and_from (ltb k (n + 1)) (eqb (get_or g k 0) 0) (lt-ltb k (n + 1) (omega arith))
            (eq-eqb (get_or g k 0) 0 (ap (λ i. get_or g i 0) same ∙ none)))
        | inr differs ↦
            ap (λ b. (ltb k n && eqb (get_or g k 0) 0) || b) (ne_eqb k n differs)
            ∙ or-false (ltb k n && eqb (get_or g k 0) 0)
            ∙ ap (λ b. b && eqb (get_or g k 0) 0) (sym (less_more k n differs))
      ];
  clash =
      is.clash
      ∙ sym (clashes_more m g n ∙ ap (λ b. b || any_below n (λ i. any_below i (λ j. clash m g i j))) (no_clash m g n none));
}

-- one more cell, which has a digit
pub seen_digit : (m : ℕ) {S : ℕ} (g : Cells) (n x sharing : ℕ) (seen : Seen S) → get_or g n 0 ≡ x + 1 → x < side m → n < size m
    → ((k : ℕ) → has sharing k ≡ (ltb k (size m) && shares m k n)) → AreSeen m g n seen
    → AreSeen m {S = S} g (n + 1) (record {
      planes = set seen.planes x (bit_or (get_or seen.planes x 0) sharing);
      blank = seen.blank;
      clash = seen.clash || not (eqb (bit_and (get_or seen.planes x 0) (2 ^ n)) 0);
    })
seen_digit m {S} g n x sharing seen at digit within shared is = record {
  long = length-set seen.planes x next ∙ is.long;
  planes = λ y k below few. elim (cases_eq y x) [
    | inl same ↦ ap (λ i. has (get_or (set seen.planes x next) i 0) k) same ∙ own k few ∙ ap (λ i. near m g (n + 1) k (i + 1)) (sym same)
    | inr differs ↦
        ap (λ p. has p k) (get_or-set_other seen.planes x y next 0 differs)
        ∙ is.planes y k below few
        ∙ sym (any_more n (λ j. shares m k j && eqb (get_or g j 0) (y + 1))
        ∙ ap (λ b. b || near m g n k (y + 1))
        (and_right (shares m k n) (eqb (get_or g n 0) (y + 1)) (ne_eqb (get_or g n 0) (y + 1) (λ e. differs (omega (arith, at, e))))))
  ];
  blank = λ k. is.blank k ∙ elim (cases_eq k n) [
    | inl same ↦
        let off : eqb (get_or g k 0) 0 ≡ false = ne_eqb (get_or g k 0) 0 (λ e.
        let v : get_or g k 0 ≡ x + 1 = ap (λ i. get_or g i 0) same ∙ at in omega (arith, v, e)) in
        and_right (ltb k n) (eqb (get_or g k 0) 0) off ∙ sym (and_right (ltb k (n + 1)) (eqb (get_or g k 0) 0) off)
    | inr differs ↦ ap (λ b. b && eqb (get_or g k 0) 0) (sym (less_more k n differs))
  ];
  clash =
      or_comm seen.clash (not (eqb (bit_and plane (2 ^ n)) 0))
      ∙ ap (λ b. b || seen.clash) (cell_test plane n ∙ is.planes x n digit within)
      ∙ ap (λ b. near m g n n (x + 1) || b) is.clash
      ∙ sym (clashes_more m g n
      ∙ ap (λ b. b || any_below n (λ i. any_below i (λ j. clash m g i j))) (clash_here m g n (x + 1) at (omega arith)));
}
  where
    plane : ℕ
    plane = get_or seen.planes x 0

    next : ℕ
    next = bit_or plane sharing

    own : (k : ℕ) → k < size m → has (get_or (set seen.planes x next) x 0) k ≡ near m g (n + 1) k (x + 1)
    own k few =
        ap (λ p. has p k) (get_or-set_same seen.planes x next 0 (omega (arith, digit, is.long)))
        ∙ has_or plane sharing k
        ∙ ap (λ b. has plane k || b) (shared k ∙ ap (λ b. b && shares m k n) (lt-ltb k (size m) few))
        ∙ ap (λ b. b || shares m k n) (is.planes x k digit few)
        ∙ or_comm (near m g n k (x + 1)) (shares m k n)
        ∙ sym (any_more n (λ j. shares m k j && eqb (get_or g j 0) (x + 1))
        ∙ ap (λ b. (shares m k n && b) || near m g n k (x + 1)) (eq-eqb (get_or g n 0) (x + 1) at)
        ∙ ap (λ b. b || near m g n k (x + 1)) (and_true (shares m k n)))

-- the planes of a grid without conflict
pub board_of : (m : ℕ) {S C : ℕ} (g : Cells) (seen : Seen S) (options : List ℕ) → IsGrid m g → AreSeen m g (length g) seen
    → seen.clash ≡ false → length options ≡ side m
    → ((x k : ℕ) → x < side m → has (get_or options x 0) k ≡ (has seen.blank k && not (has (get_or seen.planes x 0) k)))
    → IsBoard m {S = S} {C = C} (record { cells = g; blank = seen.blank; options = options })
board_of m g seen options grid is fine long left = record {
  grid = grid;
  fine = sym is.clash ∙ fine;
  long = long;
  blank = is.blank;
  options = λ x k below. left x k below ∙ ap (λ b. b && not (has (get_or seen.planes x 0) k)) (is.blank k)
      ∙ elim (cases_Bool (is_blank g k)) [
        | inl on ↦
            ap (λ b. is_blank g k && not b)
            (is.planes x k below (let h : k < length g = (blank_is g k on).within in omega (arith, h, grid.long)))
        | inr off ↦
            and_left (is_blank g k) (not (has (get_or seen.planes x 0) k)) off
            ∙ sym (and_left (is_blank g k) (not (used m g k (x + 1))) off)
      ];
}

-- The cell with the fewest candidates.

same_below : (n : ℕ) (p q : ℕ → Bool) → ((k : ℕ) → k < n → p k ≡ q k) → how_many n p ≡ how_many n q
unfolding how_many
same_below zero p q same = refl
same_below (suc n) p q same = rw (same n (omega arith), same_below n p q (λ k less. same k (omega arith))) refl

many_choices : (m : ℕ) {S C : ℕ} (w : Board S C) (k : ℕ) → IsBoard m w → is_blank w.cells k ≡ true
    → many w.options (length w.options) k ≡ choices m w.cells k
many_choices m w k is blank =
    ap (λ n. many w.options n k) is.long
    ∙ same_below (side m) (λ x. has (get_or w.options x 0) k) (λ x. is_free m w.cells k x)
    (λ x below. is.options x k below ∙ ap (λ b. b && not (used m w.cells k (x + 1))) blank)
    ∙ sym (choices_are m w.cells k)

-- the digits that can go to a blank cell are its candidates
pub options_are : (m : ℕ) {S C : ℕ} (w : Board S C) (cell options : ℕ) → IsBoard m w → is_blank w.cells cell ≡ true
    → options < 2 ^ side m → ((x : ℕ) → x < side m → bit_at options x ≡ cond (has (get_or w.options x 0) cell) 1 0)
    → AreOptions m w.cells cell options
options_are m w cell options is blank small bits = record {
  small = small;
  bits = λ x below.
      bits x below
      ∙ ap (λ b. cond b 1 0) (is.options x cell below ∙ ap (λ b. b && not (used m w.cells cell (x + 1))) blank)
      ∙ turned (used m w.cells cell (x + 1));
}
  where
    turned : (b : Bool) → ◌≡◌ {A = ℕ} (cond (not b) 1 0) (cond b 0 1)
    turned true = refl
    turned false = refl

-- a cell with the fewest candidates is blank
pub few_blank : (m : ℕ) {S C : ℕ} (w : Board S C) (few cell : ℕ) → IsBoard m w → AreFewest w.options w.blank few → has few cell ≡ true
    → is_blank w.cells cell ≡ true
few_blank m w few cell is are there =
    sym (is.blank cell)
    ∙ (and_parts (has w.blank cell) (leb (many w.options (length w.options) cell) are.n) (sym (are.cells cell) ∙ there)).0

-- the first cell with the fewest candidates is the best choice
pub fewest_board : (m : ℕ) {S C : ℕ} (w : Board S C) (few cell options : ℕ) → IsBoard m w → AreFewest w.options w.blank few
    → has few cell ≡ true → ((k : ℕ) → k < cell → has few k ≡ false) → AreOptions m w.cells cell options
    → IsBest m w.cells (length w.cells) (Some (record { cell = cell; options = options; count = ones options }))
fewest_board m w few cell options is are there first option = (
  fewest_from m w.cells cell (record {
    blank = blank_is w.cells cell blank;
    least = λ other empty.
        let test = blank_test w.cells other empty in
        omega (arith, most, many_choices m w other is test, are.least other (is.blank other ∙ test));
    first = λ other empty before.
        let test = blank_test w.cells other empty in
        let more : leb (many w.options (length w.options) other) are.n ≡ false =
        sym (ap (λ b. b && leb (many w.options (length w.options) other) are.n) (is.blank other ∙ test))
        ∙ sym (are.cells other) ∙ first other before in
        omega (arith, most, many_choices m w other is test, leb-false (many w.options (length w.options) other) are.n more);
  }),
  record {
    within = (blank_is w.cells cell blank).within;
    options = option;
    count = options_count m w.cells cell options option;
  },
)
  where
    blank : is_blank w.cells cell ≡ true
    blank = few_blank m w few cell is are there

    most : choices m w.cells cell ≤ are.n
    most =
        let parts = and_parts (has w.blank cell) (leb (many w.options (length w.options) cell) are.n) (sym (are.cells cell) ∙ there) in
        omega (arith, leb-true (many w.options (length w.options) cell) are.n parts.1, many_choices m w cell is blank)

-- where no cell is in the plane of the blank ones
pub none_blank : (m : ℕ) {S C : ℕ} (w : Board S C) → IsBoard m w → w.blank ≡ 0 → fewest m w.cells ≡ None
none_blank m w is none = (none_exact m w.cells).1 (λ cell blank.
    let on : has w.blank cell ≡ true = is.blank cell ∙ blank_test w.cells cell blank in
    let off : has w.blank cell ≡ false = ap (λ p. has p cell) none ∙ has_none cell in
    let e : true ≡ false = sym on ∙ off in cc)

-- the cells of one plane that are in another, less one that is not
pub fewer_cells : (a b cell : ℕ) → has a cell ≡ true → has b cell ≡ false → bit_and a b < a
fewer_cells a b cell on off = elim (cases_eq (bit_and a b) a) [
  | inl same ↦
      absurd (let e : true ≡ false = sym on ∙ ap (λ p. has p cell) (sym same) ∙ has_and a b cell
      ∙ and_right (has a cell) (has b cell) off in cc)
  | inr differs ↦ let le : bit_and a b ≤ a = and_le_l a b in omega arith
]
