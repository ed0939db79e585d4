-- A grid with a plane of cells for each digit: what the planes are, and what a digit changes.
use Rattle.std.specs.Prelude.{◌≡◌, ◌<◌, ◌≤◌, ℕ, ◌+◌, ◌==◌, nat_lt, Bool, true, false, ◌&&◌, not, List, length, slice_index, slice_set}
use Rattle.std.specs.Prelude.{if◌then◌else◌, sum_by}
use Rattle.sudoku_law.specs.Grid.{Cells, IsGrid, any_below, clash, conflict, shares, side, size, used}
use Rattle.sudoku_law.specs.Tree.{tree, walk}
use Rattle.sudoku_rules.specs.declared.boards.Board.{Board}
use Rattle.sudoku_rules.specs.declared.boards.Seen.{Seen}
use Rattle.sudoku_rules.specs.inside.Planes.{has}

-- the cell is one of the grid, and blank
abbrev pub is_blank : Cells → ℕ → Bool
is_blank g k = nat_lt k (length g) && (slice_index g k == 0)

-- the digit x + 1 can go into the cell
abbrev pub can_stand : ℕ → Cells → ℕ → ℕ → Bool
can_stand m g x k = is_blank g k && not (used m g k (x + 1))

-- the planes are those of the cells, which have no conflict
pub record IsBoard (m : ℕ) {S C : ℕ} (w : Board S C) : Type 0 where
  pub grid : IsGrid m w.cells
  pub fine : conflict m w.cells ≡ false
  pub long : length w.options ≡ side m
  pub blank : (k : ℕ) → has w.blank k ≡ is_blank w.cells k
  pub options : (x k : ℕ) → x < side m → has (slice_index w.options x) k ≡ can_stand m w.cells x k

-- what the first n cells of a grid rule out, and whether two of them clash
pub record AreSeen (m : ℕ) {S : ℕ} (g : Cells) (n : ℕ) (seen : Seen S) : Type 0 where
  pub long : length seen.planes ≡ side m
  pub planes : (x k : ℕ) → x < side m → k < size m →
      has (slice_index seen.planes x) k ≡ any_below n (λ j. shares m k j && (slice_index g j == x + 1))
  pub blank : (k : ℕ) → has seen.blank k ≡ (nat_lt k n && (slice_index g k == 0))
  pub clash : seen.clash ≡ any_below n (λ i. any_below i (λ j. clash m g i j))

-- the digit x + 1 is put at a cell: it can go no longer where a cell shares with that one
pub record IsPlaced (m : ℕ) {S C : ℕ} (before after : Board S C) (cell x : ℕ) : Type 0 where
  pub cells : after.cells ≡ slice_set before.cells cell (x + 1)
  pub long : length after.options ≡ length before.options
  pub blank : (k : ℕ) → has after.blank k ≡ (has before.blank k && not (k == cell))
  pub own : (k : ℕ) → has (slice_index after.options x) k ≡
      (has (slice_index before.options x) k && not (nat_lt k (size m) && shares m k cell))
  pub others : (y : ℕ) → (y ≡ x → ⊥) → slice_index after.options y ≡ slice_index before.options y

-- no digit can go to a cell any more
pub record IsLeft {S C : ℕ} (before after : Board S C) (cell : ℕ) : Type 0 where
  pub cells : after.cells ≡ before.cells
  pub blank : after.blank ≡ before.blank
  pub long : length after.options ≡ length before.options
  pub options : (y k : ℕ) → has (slice_index after.options y) k ≡ (has (slice_index before.options y) k && not (k == cell))

-- each of these cells can take one digit at most
abbrev pub AreSingle : ℕ → List ℕ → Type 0
AreSingle cells options =
    (k x y : ℕ) → has cells k ≡ true → has (slice_index options x) k ≡ true → has (slice_index options y) k ≡ true → x ≡ y

-- how many cells are blank
abbrev pub blanks : Cells → ℕ
blanks g = sum_by (λ d. if d == 0 then 1 else 0) g

-- cells with one candidate were filled, each for one of the budget, which lasts: every walk meets the same
pub record IsFilled (m : ℕ) {S C : ℕ} (old : Board S C) (b : ℕ) (new : Board S C) (left : ℕ) : Type 0 where
  pub board : IsBoard m new
  pub less : left ≤ b
  pub lasts : blanks new.cells < left
  pub same : (grain : ℕ) → walk grain (tree m b old.cells) ≡ walk grain (tree m left new.cells)
