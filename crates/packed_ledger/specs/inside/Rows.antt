-- Rows as bytes.
use Rattle.std.specs.Prelude.{ℕ, ◌+◌, ◌*◌, ◌^◌, ◌<◌, List, ◌∷◌, ◌++◌}
use Rattle.packed_ledger.specs.declared.rows.Row.{Row}
use Rattle.packed_ledger.specs.inside.Numbers.{part, mark}

-- which numbers of the row are not 0, the first in the lowest bit
unfoldable pub marks : Row → ℕ
marks r =
    mark r.first + 2 * mark r.second + 4 * mark r.third + 8 * mark r.fourth + 16 * mark r.fifth + 32 * mark r.call + 64 * mark r.number +
    128 * mark r.amount

-- the row, and these bytes after it
unfoldable pub row_before : Row → List ℕ → List ℕ
row_before r rest =
    r.head ∷ marks r ∷ (part 5 r.first ++ (part 5 r.second ++ (part 5 r.third ++ (part 5 r.fourth ++ (part 5 r.fifth
    ++ (part 10 r.call ++ (part 10 r.number ++ (part 10 r.amount ++ rest))))))))

-- its numbers are in range
pub record RowFits (r : Row) : Type 0 where
  pub first : r.first < 2 ^ 32
  pub second : r.second < 2 ^ 32
  pub third : r.third < 2 ^ 32
  pub fourth : r.fourth < 2 ^ 32
  pub fifth : r.fifth < 2 ^ 32
  pub call : r.call < 2 ^ 64
  pub number : r.number < 2 ^ 64
  pub amount : r.amount < 2 ^ 64
