-- The bytes of a body.
use Rattle.std.specs.Prelude.{ℕ, List, ◌++◌, Option, Some, None}

-- those of the common part, if there is one, and then the own ones
abbrev pub bytes_of : Option (List ℕ) → List ℕ → List ℕ
bytes_of None own = own
bytes_of (Some common) own = common ++ own
