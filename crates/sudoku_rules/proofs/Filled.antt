-- Cells with one candidate, filled one after the other.
use Rattle.std.proofs.Common.{◌≡◌, ◌<◌, ◌≤◌, ℕ, ◌+◌, ◌-◌, true, false, ◌&&◌, not, List, length, get_or, set, refl, sym, ap, ◌∙◌, inl, inr}
use Rattle.std.proofs.Common.{arith, ltb}
use Rattle.std.proofs.lemmas.Bool.{cases_lt, cases_order, and_parts, ltb-false, not-true, not-false, false_from_ne_true}
use Rattle.std.proofs.lemmas.List.{get_or_past}
use Rattle.sudoku_law.specs.Grid.{Cells, side, used}
use Rattle.sudoku_law.specs.Tree.{tree, walk}
use Rattle.sudoku_law.proofs.Ranges.{two_counted}
use Rattle.sudoku_rules.specs.declared.boards.Board.{Board}
use Rattle.sudoku_rules.specs.inside.Planes.{has, many}
use Rattle.sudoku_rules.specs.inside.Boards.{AreSingle, IsBoard, IsFilled, IsPlaced, blanks}
use Rattle.sudoku_rules.proofs.Alone.{IsAlone, blanks_put, goes_first}
use Rattle.sudoku_rules.proofs.PlaneBits.{has_none}
use Rattle.sudoku_rules.proofs.BoardSteps.{near_itself, none_new, place_board, stands_is, blank_test}

-- a cell that is not in the plane of two digits can take one digit at most
pub single_cells : (options : List ℕ) (one two singles : ℕ) → ((k : ℕ) → has two k ≡ ltb 1 (many options (length options) k))
    → ((k : ℕ) → has singles k ≡ (has one k && not (has two k))) → AreSingle singles options
single_cells options one two singles is cells k x y there x_has y_has = elim (cases_order x y) [
  | inl same ↦ same
  | inr (inl less) ↦ absurd (never x y less (within y y_has) y_has x_has)
  | inr (inr more) ↦ absurd (never y x more (within x x_has) x_has y_has)
]
  where
    within : (z : ℕ) → has (get_or options z 0) k ≡ true → z < length options
    within z z_has = elim (cases_lt z (length options)) [
      | inl less ↦ less
      | inr more ↦
          absurd (let e : true ≡ false = sym z_has ∙ ap (λ p. has p k) (get_or_past options z 0 more) ∙ has_none k in cc)
    ]

    few : many options (length options) k ≤ 1
    few = ltb-false 1 (many options (length options) k)
        (sym (is k) ∙ not-true (has two k) (and_parts (has one k) (not (has two k)) (sym (cells k) ∙ there)).1)

    never : (i j : ℕ) → i < j → j < length options → has (get_or options j 0) k ≡ true → has (get_or options i 0) k ≡ true → ⊥
    never i j less inside first second =
        omega (arith, two_counted (length options) j i (λ z. has (get_or options z 0) k) less inside first second, few)

-- no other digit can go where this one can
pub no_other : (options : List ℕ) (singles cell x : ℕ) → AreSingle singles options → has singles cell ≡ true
    → has (get_or options x 0) cell ≡ true → (y : ℕ) → (y ≡ x → ⊥) → has (get_or options y 0) cell ≡ false
no_other options singles cell x single there stands y differs =
    false_from_ne_true (has (get_or options y 0) cell) (λ also. differs (single cell y x there also stands))

-- the digit is then the one candidate of the cell
pub alone_is : (m : ℕ) {S C : ℕ} (w : Board S C) (singles cell x : ℕ) → IsBoard m w → AreSingle singles w.options → x < side m
    → has singles cell ≡ true → has (get_or w.options x 0) cell ≡ true → IsAlone m w.cells cell (x + 1)
alone_is m w singles cell x is single digit there stands =
    let at = stands_is m w x cell is digit stands in
    record {
      blank = at.blank;
      low = omega arith;
      high = omega arith;
      free = at.unused;
      others = λ e low high differs.
          let back : e - 1 + 1 ≡ e = omega arith in
          let off : has (get_or w.options (e - 1) 0) cell ≡ false =
          no_other w.options singles cell x single there stands (e - 1) (λ same. differs (omega arith)) in
          let free : not (used m w.cells cell (e - 1 + 1)) ≡ false =
          sym (ap (λ b. b && not (used m w.cells cell (e - 1 + 1))) (blank_test w.cells cell at.blank))
          ∙ sym (is.options (e - 1) cell (omega arith)) ∙ off in
          ap (λ d. used m w.cells cell d) (sym back) ∙ not-false (used m w.cells cell (e - 1 + 1)) free;
    }

-- one cell more
pub fill_step : (m : ℕ) {S C : ℕ} (old w after : Board S C) (b left singles cell x : ℕ) → IsFilled m old b w left
    → AreSingle singles w.options → x < side m → has singles cell ≡ true → has (get_or w.options x 0) cell ≡ true
    → IsPlaced m w after cell x → IsFilled m old b after (left - 1)
fill_step m old w after b left singles cell x filled single digit there stands placed = record {
  board = place_board m w w after cell x filled.board
      (near_itself w cell x (no_other w.options singles cell x single there stands)) digit
      (stands_is m w x cell filled.board digit stands) placed;
  less = let le : left ≤ b = filled.less in omega arith;
  lasts =
      let fewer : blanks (set w.cells cell (x + 1)) + 1 ≡ blanks w.cells = blanks_put w.cells cell (x + 1) alone.blank (omega arith) in
      let same : blanks after.cells ≡ blanks (set w.cells cell (x + 1)) = ap (λ (g : Cells). blanks g) placed.cells in
      let lasted : blanks w.cells < left = filled.lasts in
      omega arith;
  same = λ grain.
      filled.same grain
      ∙ goes_first (blanks w.cells) m grain left w.cells cell (x + 1) filled.board.fine alone (omega arith) filled.lasts
      ∙ ap (λ (g : Cells). walk grain (tree m (left - 1) g)) (sym placed.cells);
}
  where
    alone : IsAlone m w.cells cell (x + 1)
    alone = alone_is m w singles cell x filled.board single digit there stands

-- no more digits can go to these cells after one was put
pub single_after : (m : ℕ) {S C : ℕ} (w after : Board S C) (singles cell x : ℕ) → AreSingle singles w.options → IsPlaced m w after cell x
    → AreSingle singles after.options
single_after m w after singles cell x single placed k y z there first second =
    single k y z there (none_new m w after cell x y k placed first) (none_new m w after cell x z k placed second)

-- at first none was filled
pub filled_none : (m : ℕ) {S C : ℕ} (w : Board S C) (b : ℕ) → IsBoard m w → blanks w.cells < b → IsFilled m w b w b
filled_none m w b is lasts = record { board = is; less = omega arith; lasts = lasts; same = λ grain. refl }

-- cells that were filled, and then others
pub filled_then : (m : ℕ) {S C : ℕ} (u v w : Board S C) (a b c : ℕ) → IsFilled m u a v b → IsFilled m v b w c → IsFilled m u a w c
filled_then m u v w a b c first second = record {
  board = second.board;
  less = let p : b ≤ a = first.less in let q : c ≤ b = second.less in omega arith;
  lasts = second.lasts;
  same = λ grain. first.same grain ∙ second.same grain;
}
