-- What the signs of a made puzzle are.
use Rattle.std.specs.Prelude.{◌≡◌, ◌⊎◌, ◌≤◌, ◌==◌, ℕ, List, All, count_by, length, not}

-- the sign of a digit from 1 to 9
abbrev pub IsDigit : ℕ → Type 0
IsDigit sign = (49 ≤ sign) × (sign ≤ 57)

-- a dot, for a blank cell, or the sign of a digit
abbrev pub IsSign : ℕ → Type 0
IsSign sign = (sign ≡ 46) ⊎ IsDigit sign

-- how many of the signs are no dots
abbrev pub filled : List ℕ → ℕ
filled signs = count_by (λ sign. not (sign == 46)) signs

-- a sign for each cell of a grid of side 9
pub record IsPuzzle (signs : List ℕ) : Type 0 where
  pub long : length signs ≡ 81
  pub each : All IsSign signs
