-- The digits of each row, column and box as masks, and the cell to try next.
use Rattle.std.specs.Prelude.{◌≡◌, ◌<◌, ◌≤◌, ℕ, ◌+◌, ◌^◌, ◌==◌, Bool, ◌&&◌, List, length, slice_index, Option, Some, None, if◌then◌else◌}
use Rattle.std.specs.Int.{bit_at}
use Rattle.sudoku_law.specs.Grid.{Cells, any_below, row_of, column_of, box_of, side, size, clash, used, choices, fewest_below}
use Rattle.sudoku_rules.specs.declared.look.Masks.{Masks}
use Rattle.sudoku_rules.specs.declared.look.Choice.{Choice}

-- a box's side from 2 to 4, the grid's side and how many cells it has
pub record IsSized (m s n : ℕ) : Type 0 where
  pub low : 2 ≤ m
  pub high : m ≤ 4
  pub side : s ≡ side m
  pub cells : n ≡ size m

-- one of the first n cells has the digit and is in this row, column or box
abbrev pub seen : (ℕ → ℕ) → Cells → ℕ → ℕ → ℕ → Bool
seen group g n u d = any_below n (λ j. (u == group j) && (slice_index g j == d))

-- bit k of a group's mask is set exactly if one of the first n cells is in the group and has digit k + 1
pub record IsMarked (m : ℕ) (group : ℕ → ℕ) (g : Cells) (n : ℕ) (masks : List ℕ) : Type 0 where
  pub long : length masks ≡ side m
  pub small : (u : ℕ) → u < side m → slice_index masks u < 2 ^ side m
  pub bits : (u k : ℕ) → u < side m → k < side m → bit_at (slice_index masks u) k ≡ (if seen group g n u (k + 1) then 1 else 0)

-- the masks of the first n cells, and whether two of these clash
pub record AreMasks (m : ℕ) {S : ℕ} (g : Cells) (n : ℕ) (masks : Masks S) : Type 0 where
  pub rows : IsMarked m (row_of m) g n masks.rows
  pub columns : IsMarked m (column_of m) g n masks.columns
  pub boxes : IsMarked m (box_of m) g n masks.boxes
  pub clash : masks.clash ≡ any_below n (λ i. any_below i (λ j. clash m g i j))

-- bit k is set exactly if digit k + 1 is a candidate of the cell
pub record AreOptions (m : ℕ) (g : Cells) (cell options : ℕ) : Type 0 where
  pub small : options < 2 ^ side m
  pub bits : (k : ℕ) → k < side m → bit_at options k ≡ (if used m g cell (k + 1) then 0 else 1)

-- a cell with its candidates, and how many these are
pub record IsChoice (m : ℕ) (g : Cells) (choice : Choice) : Type 0 where
  pub within : choice.cell < length g
  pub options : AreOptions m g choice.cell choice.options
  pub count : choice.count ≡ choices m g choice.cell

-- the best choice of the first n cells
abbrev pub IsBest : ℕ → Cells → ℕ → Option Choice → Type 0
IsBest m g n None = fewest_below m g n ≡ None
IsBest m g n (Some choice) = (fewest_below m g n ≡ Some choice.cell) × IsChoice m g choice
