-- How definitions are linked by the numbers of their names.
use Rattle.std.specs.Prelude.{◌≡◌, ◌≤◌, ℕ, ◌==◌, nat_lt, Bool, true, false, ◌||◌, List, [], Option, Some, None, length, map, position}
use Rattle.std.specs.Prelude.{slice_get}
use Rattle.std.specs.BTreeMap.{get_by}
use Rattle.std.specs.Cmp.Lexicographic.{slice_cmp}
use Rattle.std.specs.List.{list_all, list_any}
use Rattle.std.specs.Ordering.{nat_cmp}
use Rattle.std.specs.Str.{bytes_eq}
use Rattle.std.specs.Global.{Vec}
use Rattle.flow_law.specs.Flows.{AreDistinct, Name, name_of}
use Rattle.flow_law.specs.declared.Definition.{Definition}
use Rattle.flow_law.specs.declared.Definition.TheVariants.{Let, Rule}
use Rattle.flow_app.specs.declared.links.Inputs.{Inputs}
use Rattle.flow_app.specs.declared.links.Numbers.{Numbers}
use Rattle.flow_app.specs.Reading.{definition_limit}

-- the number that is noted of a name
abbrev pub noted_number : Numbers → Name → Option ℕ
noted_number numbers name = get_by (λ k. slice_cmp nat_cmp name k.now) numbers.held

-- the number of the first definition of a name
abbrev pub number_of : List Definition → Name → Option ℕ
number_of flow name = position (λ d. bytes_eq (name_of d) name) flow

-- the numbers of a rule's inputs, where names have these numbers
abbrev pub inputs_by : (Name → Option ℕ) → Definition → Inputs
inputs_by number (Let name value) = record { left = None; right = None }
inputs_by number (Rule name op left right) = record { left = number left; right = number right }

-- the inputs of a definition, by number
abbrev pub inputs_of : List Definition → Definition → Inputs
inputs_of flow d = inputs_by (number_of flow) d

-- one of the inputs has this number
abbrev pub is_number : Option ℕ → ℕ → Bool
is_number None i = false
is_number (Some n) i = n == i

-- a rule with these inputs asks for the number
abbrev pub asks : Inputs → ℕ → Bool
asks inputs i = is_number inputs.left i || is_number inputs.right i

-- the rules that are noted as those that ask for this number
abbrev pub items_of : Option (Vec ℕ) → List ℕ
items_of None = []
items_of (Some v) = v.items

-- the rules that ask for the number
abbrev pub users_at : List (Vec ℕ) → ℕ → List ℕ
users_at users i = items_of (slice_get users i)

-- a list of numbers has this one
abbrev pub has : List ℕ → ℕ → Bool
has numbers n = list_any (λ x. x == n) numbers

-- all are numbers of a list of this length
abbrev pub are_below : ℕ → List ℕ → Bool
are_below n numbers = list_all (λ x. nat_lt x n) numbers

-- each definition has the numbers of its inputs, and each number the rules that ask for it
pub record IsLinked (flow : List Definition) (inputs : List Inputs) (users : List (Vec ℕ)) : Type 0 where
  pub distinct : AreDistinct flow
  pub few : length flow ≤ definition_limit
  pub inputs_are : inputs ≡ map (inputs_of flow) flow
  pub long : length users ≡ length flow
  pub within : (i : ℕ) → are_below (length flow) (users_at users i) ≡ true
  pub all : (i q : ℕ) (d : Definition) → slice_get flow q ≡ Some d → asks (inputs_of flow d) i ≡ true → has (users_at users i) q ≡ true
