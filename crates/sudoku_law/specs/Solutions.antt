-- The list of all solutions.
use Rattle.std.specs.Prelude.{◌≡◌, ℕ, ◌+◌, ◌<◌, List, [], length, slice_index_or, Contains, ◌↔◌}
use Rattle.std.specs.Cmp.Lexicographic.{slice_cmp}
use Rattle.std.specs.Ordering.{nat_cmp}
use Rattle.std.specs.declared.cmp.Ordering.TheVariants.{Less}
use Rattle.sudoku_law.specs.Grid.{Cells, IsSolution}
use Rattle.sudoku_law.specs.Text.{text_of}

-- the one list, rising in text order, that has every solution of g once and nothing else
pub record IsSolutionList (m : ℕ) (g : Cells) (xs : List Cells) : Type 0 where
  pub rising : (k : ℕ) → k + 1 < length xs
      → slice_cmp nat_cmp (text_of (slice_index_or xs k [])) (text_of (slice_index_or xs (k + 1) [])) ≡ Less
  pub each : (s : Cells) → Contains xs s ↔ IsSolution m g s
