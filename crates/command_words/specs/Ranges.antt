-- The numbers of a command line.
use Rattle.std.specs.Prelude.{◌^◌, ◌-◌, ◌≤◌, ℕ}

-- the least and the greatest that are accepted, and the one that stands where none is given
pub record Range : Type 0 where
  pub low : ℕ
  pub high : ℕ
  pub default : ℕ

-- how many ranks and servers there are
abbrev pub rank_counts : Range
rank_counts = record { low = 1; high = 32; default = 4 }

-- how many servers a run can have
abbrev pub server_counts : Range
server_counts = record { low = 1; high = 8; default = 2 }

-- the limit of bytes of a server
abbrev pub limits : Range
limits = record { low = 64; high = 2 ^ 30; default = 2 ^ 26 }

-- the budget of a puzzle
abbrev pub budgets : Range
budgets = record { low = 1; high = 2 ^ 32; default = 2 ^ 24 }

-- the grain of a puzzle
abbrev pub grains : Range
grains = record { low = 1; high = 2 ^ 32; default = 2 ^ 16 }

-- how many puzzles are made, and from which seed: both have to be given
abbrev pub counts : Range
counts = record { low = 0; high = 100000; default = 0 }

-- the seed of what is made
abbrev pub seeds : Range
seeds = record { low = 0; high = 2 ^ 64 - 1; default = 0 }

-- the number is in the range
abbrev pub IsIn : Range → ℕ → Type 0
IsIn range n = (range.low ≤ n) × (n ≤ range.high)
