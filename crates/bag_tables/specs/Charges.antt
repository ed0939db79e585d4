-- What is charged to each server.
use Rattle.std.specs.Prelude.{ℕ, ◌≡◌, ◌==◌, ◌*◌, ◌<◌, ◌≤◌, ◌^◌, List, length, sum_by, Option, Some, None, if◌then◌else◌, slice_index}
use Rattle.adlb_unit.specs.declared.names.Server.{Server}
use Rattle.bag_tables.specs.declared.charges.Charges.{Charges}

-- what is charged to the server of this number
abbrev pub charged_at : Charges → ℕ → ℕ
charged_at charges k = slice_index charges.sums k

-- this number of bytes at one server, if at any, as the bytes at the server of this number
abbrev pub bytes_at : Option Server → ℕ → ℕ → ℕ
bytes_at None k n = 0
bytes_at (Some server) k n = if server.0 == k then n else 0

-- the charges are the sums of what each element weighs at each server; all sizes together fit a counter
pub record IsSummed {X : Type 0} (weight : ℕ → X → ℕ) (size : X → ℕ) (charges : Charges) (xs : List X) : Type 0 where
  pub sums : (k : ℕ) → k < 8 → charged_at charges k ≡ sum_by (weight k) xs
  pub small : sum_by size xs ≤ length xs * 2 ^ 64
