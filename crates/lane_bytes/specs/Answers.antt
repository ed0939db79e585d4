-- What the kernels answer.
use Rattle.std.specs.Prelude.{ℕ, Bool, ◌&&◌, nat_le, max, List, [], ◌∷◌, length, filter}

-- the byte is from lo to hi, both included
abbrev pub is_from : ℕ → ℕ → ℕ → Bool
is_from lo hi byte = nat_le lo byte && nat_le byte hi

-- how many of the bytes are from lo to hi
abbrev pub count_from : ℕ → ℕ → List ℕ → ℕ
count_from lo hi bytes = length (filter (is_from lo hi) bytes)

-- the greatest of the bytes, and 0 of none
abbrev pub greatest : List ℕ → ℕ
greatest [] = 0
greatest (byte ∷ bytes) = max byte (greatest bytes)
