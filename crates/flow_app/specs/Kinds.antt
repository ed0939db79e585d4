-- What a line of a flow is: the cases are tried in their order.
use Rattle.std.specs.Prelude.{ℕ, ◌==◌, ◌^◌, nat_lt, nat_le, Bool, ◌&&◌, ◌||◌, List, [], ◌∷◌, Option, Some, None, codes, decimal, length}
use Rattle.std.specs.Prelude.{slice_index, if◌then◌else◌}
use Rattle.std.specs.List.{list_all, slice_split}
use Rattle.std.specs.Str.{bytes_eq}
use Rattle.std.specs.Str.Parse.{digits_value}
use Rattle.flow_law.specs.Flows.{Name}
use Rattle.flow_law.specs.declared.Definition.{Definition}
use Rattle.flow_law.specs.declared.Definition.TheVariants.{Let, Rule}
use Rattle.flow_law.specs.declared.Op.{Op}
use Rattle.flow_law.specs.declared.Op.TheVariants.{Add, Mul, Min, Max, Xor}
use Rattle.flow_app.specs.declared.faults.FlowWhy.{FlowWhy}
use Rattle.flow_app.specs.declared.faults.FlowWhy.TheVariants.{Long, Form}

-- a line is skipped, it is a definition, or it is refused wherever it is
pub data Kind : Type 0 where
  skipped : Kind
  defines : Definition → Kind
  bad : FlowWhy → Kind

-- the most bytes of a line
abbrev pub line_limit : ℕ
line_limit = 2 ^ 20

-- the byte is this mark
abbrev pub is_mark : ℕ → ℕ → Bool
is_mark mark byte = byte == mark

-- a name has 1 to 16 lower-case letters
abbrev pub is_letter : ℕ → Bool
is_letter byte = nat_le 97 byte && nat_le byte 122

-- the name that a word is: 1 to 16 letters
unfoldable pub name_in : List ℕ → Option Name
name_in word = if (length word == 0) || nat_lt 16 (length word) then None else (if list_all is_letter word then Some word else None)

-- the number below 2^64 that is written so in decimal digits, with no leading zero that is not needed
unfoldable pub number_in : List ℕ → Option ℕ
number_in word =
    if nat_lt (digits_value 10 word) (2 ^ 64) && bytes_eq (decimal (digits_value 10 word)) word
    then Some (digits_value 10 word)
    else None

-- the operation that a word is
unfoldable pub op_in : List ℕ → Option Op
op_in word =
    if bytes_eq word (codes "add") then Some Add
    else if bytes_eq word (codes "mul") then Some Mul
    else if bytes_eq word (codes "min") then Some Min
    else if bytes_eq word (codes "max") then Some Max
    else if bytes_eq word (codes "xor") then Some Xor
    else None

-- a definition of these parts, if each is of its form
abbrev pub let_with : Option Name → Option ℕ → Option Definition
let_with (Some name) (Some value) = Some (Let name value)
let_with name value = None

-- a rule of its parts, if all are there
abbrev pub rule_with : Option Name → Option Op → Option Name → Option Name → Option Definition
rule_with (Some name) (Some op) (Some left) (Some right) = Some (Rule name op left right)
rule_with name op left right = None

-- the definition of these words: `let`, a name and a number, or `rule`, a name, what it does, and two names
abbrev pub let_in : List (List ℕ) → Option Definition
let_in (name ∷ value ∷ []) = let_with (name_in name) (number_in value)
let_in words = None

-- the rule of the words after `rule`
abbrev pub rule_in : List (List ℕ) → Option Definition
rule_in (name ∷ op ∷ left ∷ right ∷ []) = rule_with (name_in name) (op_in op) (name_in left) (name_in right)
rule_in words = None

-- the definition of the words of a line
unfoldable pub definition_in : List (List ℕ) → Option Definition
definition_in [] = None
definition_in (first ∷ words) =
    if bytes_eq first (codes "let") then let_in words
    else if bytes_eq first (codes "rule") then rule_in words
    else None

-- the kind of a line by its definition
abbrev pub form_kind : Option Definition → Kind
form_kind (Some d) = defines d
form_kind None = bad Form

-- a line that is not too long: it is empty or a comment, or its words, between single spaces, are a definition
unfoldable pub short_kind : List ℕ → Kind
short_kind line =
    if (length line == 0) || (slice_index line 0 == 35) then skipped
    else form_kind (definition_in (slice_split (is_mark 32) line))

-- the kind of a line
unfoldable pub kind_of : List ℕ → Kind
kind_of line = if nat_lt line_limit (length line) then bad Long else short_kind line
