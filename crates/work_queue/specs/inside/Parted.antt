-- A list in two parts, as the others see it.
use Rattle.std.specs.Prelude.{ℕ, List}

-- the items, in order, and how many there is room for
pub record Row (X : Type 0) : Type 0 where
  pub items : List X
  pub capacity : ℕ
