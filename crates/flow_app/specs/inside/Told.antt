-- The pieces of the output.
use Rattle.std.specs.Prelude.{ℕ, List, ◌++◌, Option, codes, decimal}
use Rattle.flow_law.specs.Flows.{Name, told}

-- the line of a name
abbrev pub line_with : Name → Option ℕ → List ℕ
line_with name value = name ++ told value ++ codes "\n"

-- the last line, with the counts
abbrev pub ends_with : ℕ → ℕ → List ℕ
ends_with done waits = codes "done " ++ decimal done ++ codes " waits " ++ decimal waits ++ codes "\n"
