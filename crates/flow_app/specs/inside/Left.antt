-- What is left of what is read part by part, and what a line is in the code.
use Rattle.std.specs.Prelude.{◌≡◌, ⊤, ℕ, ◌+◌, List, [], Option, Some, None, length}
use Rattle.std.specs.Borrow.{Bor}
use Rattle.std.specs.List.{slice_split}
use Rattle.flow_law.specs.Flows.{name_of}
use Rattle.flow_law.specs.declared.Definition.{Definition}
use Rattle.flow_app.specs.declared.kinds.Line.{Line}
use Rattle.flow_app.specs.declared.kinds.Named.{Named}
use Rattle.flow_app.specs.declared.kinds.Line.TheVariants as code
use Rattle.flow_app.specs.declared.parts.Parts.{Parts}
use Rattle.flow_app.specs.Kinds.{Kind, skipped, defines, bad, is_mark}

-- the parts of what is left, and its bytes with one for the end
abbrev pub parts_in : ℕ → Option (Bor (List ℕ)) → List (List ℕ)
parts_in mark None = []
parts_in mark (Some rest) = slice_split (is_mark mark) rest.now

-- the bytes that are left, and one for each end
abbrev pub room_in : Option (Bor (List ℕ)) → ℕ
room_in None = 0
room_in (Some rest) = length rest.now + 1

-- the parts that are left
abbrev pub parts_left : Parts → List (List ℕ)
parts_left p = parts_in p.mark p.rest

-- the bytes that the parts have left
abbrev pub room_left : Parts → ℕ
room_left p = room_in p.rest

-- the kind of a line
abbrev pub kind : Line → Kind
kind code.Skipped = skipped
kind (code.Defines n) = defines n.definition
kind (code.Bad why) = bad why

-- the definition that was read, if one was
abbrev pub its_definition : Option Named → Option Definition
its_definition None = None
its_definition (Some n) = Some n.definition

-- its name as it is in the line is the name that it defines
abbrev pub IsNamed : Named → Type 0
IsNamed n = n.name.now ≡ name_of n.definition

-- if there is a definition, its name is its own
abbrev pub IsNamedIfAny : Option Named → Type 0
IsNamedIfAny None = ⊤
IsNamedIfAny (Some n) = IsNamed n

-- if the line defines, its name is its own
abbrev pub IsNamedLine : Line → Type 0
IsNamedLine (code.Defines n) = IsNamed n
IsNamedLine line = ⊤
