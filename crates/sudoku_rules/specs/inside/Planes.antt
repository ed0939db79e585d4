-- Planes: bit k of a number is set where cell k is in the plane.
use Rattle.std.specs.Prelude.{◌≡◌, ◌<◌, ◌≤◌, ℕ, ◌==◌, nat_lt, nat_le, Bool, true, ◌&&◌, List, length, slice_index}
use Rattle.std.specs.Int.{bit_at}
use Rattle.sudoku_law.specs.Grid.{how_many}
use Rattle.sudoku_rules.specs.declared.planes.Levels.{Levels}

-- the cell is in the plane
abbrev pub has : ℕ → ℕ → Bool
has plane k = bit_at plane k == 1

-- how many of the first n planes have the cell
abbrev pub many : List ℕ → ℕ → ℕ → ℕ
many planes n k = how_many n (λ x. has (slice_index planes x) k)

-- the cells that more than 0, 1 and 2 of the first n planes have
pub record AreLevels (planes : List ℕ) (n : ℕ) (levels : Levels) : Type 0 where
  pub one : (k : ℕ) → has levels.one k ≡ nat_lt 0 (many planes n k)
  pub two : (k : ℕ) → has levels.two k ≡ nat_lt 1 (many planes n k)
  pub three : (k : ℕ) → has levels.three k ≡ nat_lt 2 (many planes n k)

-- a plane has those cells of another that are in the fewest planes, and some cell
pub record AreFewest (planes : List ℕ) (all few : ℕ) : Type 0 where
  pub n : ℕ
  pub some : 0 < few
  pub cells : (k : ℕ) → has few k ≡ (has all k && nat_le (many planes (length planes) k) n)
  pub least : (k : ℕ) → has all k ≡ true → n ≤ many planes (length planes) k
