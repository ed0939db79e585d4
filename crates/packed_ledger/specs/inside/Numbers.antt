-- Numbers as bytes.
use Rattle.std.specs.Prelude.{ℕ, zero, suc, ◌+◌, ◌*◌, ◌/◌, ◌%◌, List, [], ◌∷◌, nat_lt, ◌==◌, if◌then◌else◌}
use Rattle.std.specs.Prelude.{ℤ, pos, negsuc}

-- the lowest groups of 7 bits of a number, the lowest first, each but the last with 128 added
unfoldable pub groups : ℕ → ℕ → List ℕ
groups zero n = []
groups (suc k) n = if nat_lt n 128 then n ∷ [] else (128 + n % 128) ∷ groups k (n / 128)

-- the groups of a number that is left out if it is 0
unfoldable pub part : ℕ → ℕ → List ℕ
part most n = if n == 0 then [] else groups most n

-- 1 for a number that is not left out
unfoldable pub mark : ℕ → ℕ
mark n = if n == 0 then 0 else 1

-- a priority without a sign
unfoldable pub unsigned : ℤ → ℕ
unsigned (pos n) = 2 * n
unsigned (negsuc n) = 2 * n + 1

-- the signed number of an unsigned one
unfoldable pub signed : ℕ → ℤ
signed n = if n % 2 == 0 then pos (n / 2) else negsuc (n / 2)
