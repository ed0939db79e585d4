-- What a unit is worth.
use Rattle.std.specs.Prelude.{ℕ, ◌==◌, List, count_by}

-- how often the letter e occurs in it
abbrev pub worth : List ℕ → ℕ
worth unit = count_by (λ letter. letter == 101) unit
