-- What the names of a flow are worth.
use Rattle.std.specs.Prelude.{◌≤◌, ℕ, zero, suc, ◌+◌, ◌*◌, ◌%◌, ◌^◌, min, max, bit_xor, List, [], ◌∷◌, ◌++◌, length, flat_map, count_by}
use Rattle.std.specs.Prelude.{Option, Some, None, if◌then◌else◌, Contains, codes, decimal, is_some, is_none, bytes_eq}
use Rattle.flow_law.specs.declared.Definition.{Definition}
use Rattle.flow_law.specs.declared.Definition.TheVariants.{Let, Rule}
use Rattle.flow_law.specs.declared.Op.{Op}
use Rattle.flow_law.specs.declared.Op.TheVariants.{Add, Mul, Min, Max, Xor}

-- a name, as its bytes
abbrev pub Name : Type 0
Name = List ℕ

-- what a rule does with its two inputs
abbrev pub apply : Op → ℕ → ℕ → ℕ
apply Add a b = (a + b) % 2 ^ 64
apply Mul a b = (a * b) % 2 ^ 64
apply Min a b = min a b
apply Max a b = max a b
apply Xor a b = bit_xor a b

-- the name that is defined
abbrev pub name_of : Definition → Name
name_of (Let name value) = name
name_of (Rule name op left right) = name

-- each name is defined once at most
abbrev pub AreDistinct : List Definition → Type 0
AreDistinct flow = (name : Name) → count_by (λ d. bytes_eq (name_of d) name) flow ≤ 1

-- A name has a value where a `let` gives it, or where a rule gives it whose inputs both have values.
pub data HasValue (flow : List Definition) : Name → ℕ → Type 0 where
  given : (name : Name) (v : ℕ) → Contains flow (Let name v) → HasValue flow name v
  ruled : (name : Name) (op : Op) (left right : Name) (a b : ℕ) → Contains flow (Rule name op left right) → HasValue flow left a →
      HasValue flow right b → HasValue flow name (apply op a b)

-- The values as a function, in turns.

-- what a rule gives, if both inputs have values
abbrev pub joined : Op → Option ℕ → Option ℕ → Option ℕ
joined op (Some a) (Some b) = Some (apply op a b)
joined op a b = None

-- what a definition gives, if names are worth this
abbrev pub gives : (Name → Option ℕ) → Definition → Option ℕ
gives worth (Let name value) = Some value
gives worth (Rule name op left right) = joined op (worth left) (worth right)

-- what the definition of this name gives, if there is one
unfoldable pub looked_up : (Name → Option ℕ) → List Definition → Name → Option ℕ
looked_up worth [] name = None
looked_up worth (d ∷ flow) name = if bytes_eq (name_of d) name then gives worth d else looked_up worth flow name

-- what the names are worth after a number of turns: at first nothing, and then what their definitions give of the turn before
unfoldable pub turn : List Definition → ℕ → Name → Option ℕ
turn flow zero name = None
turn flow (suc k) name = looked_up (turn flow k) flow name

-- in as many turns as there are definitions no name is missed
abbrev pub value : List Definition → Name → Option ℕ
value flow name = turn flow (length flow) name

-- The output.

-- how a worth is written
abbrev pub told : Option ℕ → List ℕ
told None = codes " waits"
told (Some v) = codes " = " ++ decimal v

-- the line of a definition
abbrev pub line_of : List Definition → Definition → List ℕ
line_of flow d = name_of d ++ told (value flow (name_of d)) ++ codes "\n"

-- how many definitions have a value, and how many wait
abbrev pub done_in : List Definition → ℕ
done_in flow = count_by (λ d. is_some (value flow (name_of d))) flow

-- how many names have no value
abbrev pub waits_in : List Definition → ℕ
waits_in flow = count_by (λ d. is_none (value flow (name_of d))) flow

-- a line for each definition, and then how many have values and how many wait
abbrev pub flow_text : List Definition → List ℕ
flow_text flow =
    flat_map (line_of flow) flow ++ codes "done " ++ decimal (done_in flow) ++ codes " waits " ++ decimal (waits_in flow) ++ codes "\n"
