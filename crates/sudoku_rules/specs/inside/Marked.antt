-- A grid with its masks: what they are at each step of a walk, and how a step changes them.
use Rattle.std.specs.Prelude.{◌≡◌, ◌<◌, ◌≤◌, ℕ, ◌+◌, ◌*◌, ◌-◌, ◌^◌, ◌==◌, nat_le, Bool, true, false, ◌&&◌, List, length, slice_index}
use Rattle.std.specs.Prelude.{slice_set, bit_and, bit_or, if◌then◌else◌}
use Rattle.std.specs.Int.{bit_at}
use Rattle.sudoku_law.specs.Grid.{Cells, IsGrid, row_of, column_of, box_of, side}
use Rattle.sudoku_rules.specs.declared.marked.Marked.{Marked}
use Rattle.sudoku_rules.specs.declared.marked.Marks.{Marks}
use Rattle.sudoku_rules.specs.inside.Masks.{AreMasks}

-- bit k of a row's mask is set exactly if its cell in column k is blank, for the first n columns
pub record IsBlankRow (m : ℕ) (g : Cells) (row n mask : ℕ) : Type 0 where
  pub small : mask < 2 ^ n
  pub bits : (k : ℕ) → k < n → bit_at mask k ≡ (if slice_index g (row * side m + k) == 0 then 1 else 0)

-- a mask for each row
pub record AreBlanks (m : ℕ) (g : Cells) (blanks : List ℕ) : Type 0 where
  pub long : length blanks ≡ side m
  pub rows : (row : ℕ) → row < side m → IsBlankRow m g row (side m) (slice_index blanks row)

-- the masks are those of the cells, which have no conflict
pub record IsCarried (m : ℕ) {S C : ℕ} (w : Marked S C) : Type 0 where
  pub grid : IsGrid m w.cells
  pub masks : AreMasks m w.cells (length w.cells) w.masks
  pub fine : w.masks.clash ≡ false
  pub blanks : AreBlanks m w.cells w.blanks

-- the bits of a mask are the numbers below n that pass the test, from this one on
pub record IsRest (n : ℕ) (p : ℕ → Bool) (from mask : ℕ) : Type 0 where
  pub small : mask < 2 ^ n
  pub bits : (k : ℕ) → k < n → bit_at mask k ≡ (if nat_le from k && p k then 1 else 0)

-- the first number that passes the test, from this one on; it is below n
pub record IsNext (n : ℕ) (p : ℕ → Bool) (from k : ℕ) : Type 0 where
  pub few : k < n
  pub low : from ≤ k
  pub passes : p k ≡ true
  pub others : (j : ℕ) → from ≤ j → j < k → p j ≡ false

-- the masks around a cell
abbrev pub marks_at : ℕ → {S C : ℕ} → Marked S C → ℕ → Marks
marks_at m w cell = record {
  in_row = slice_index w.masks.rows (row_of m cell);
  in_column = slice_index w.masks.columns (column_of m cell);
  in_box = slice_index w.masks.boxes (box_of m cell);
  blanks_in_row = slice_index w.blanks (row_of m cell);
}

-- the digit x + 1 is at the cell
abbrev pub put_at : ℕ → {S C : ℕ} → Marked S C → ℕ → ℕ → Marked S C
put_at m w cell x = record {
  cells = slice_set w.cells cell (x + 1);
  masks = record {
    rows = slice_set w.masks.rows (row_of m cell) (bit_or (slice_index w.masks.rows (row_of m cell)) (2 ^ x));
    columns = slice_set w.masks.columns (column_of m cell) (bit_or (slice_index w.masks.columns (column_of m cell)) (2 ^ x));
    boxes = slice_set w.masks.boxes (box_of m cell) (bit_or (slice_index w.masks.boxes (box_of m cell)) (2 ^ x));
    clash = w.masks.clash;
  };
  blanks = slice_set w.blanks (row_of m cell) (bit_and (slice_index w.blanks (row_of m cell)) (65535 - 2 ^ column_of m cell));
}

-- the cell is blank, and these marks stand around it
abbrev pub put_back : ℕ → {S C : ℕ} → Marked S C → ℕ → Marks → Marked S C
put_back m w cell marks = record {
  cells = slice_set w.cells cell 0;
  masks = record {
    rows = slice_set w.masks.rows (row_of m cell) marks.in_row;
    columns = slice_set w.masks.columns (column_of m cell) marks.in_column;
    boxes = slice_set w.masks.boxes (box_of m cell) marks.in_box;
    clash = w.masks.clash;
  };
  blanks = slice_set w.blanks (row_of m cell) marks.blanks_in_row;
}
