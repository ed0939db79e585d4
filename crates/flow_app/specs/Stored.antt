-- What a store holds while the values of a flow come together.
use Rattle.std.specs.Prelude.{◌≡◌, ◌⊎◌, ◌≤◌, ◌<◌, ℕ, ◌+◌, ◌-◌, Bool, true, false, not, if◌then◌else◌, List, [], ◌++◌, Option, Some, None}
use Rattle.std.specs.Prelude.{length}
use Rattle.std.specs.Prelude.{count_by, drop, is_some, slice_get, slice_index_or, slice_set, take}
use Rattle.flow_law.specs.Flows.{AreDistinct, HasValue, Name, gives, joined, name_of}
use Rattle.flow_law.specs.declared.Definition.{Definition}
use Rattle.flow_law.specs.declared.Definition.TheVariants.{Let, Rule}
use Rattle.flow_law.specs.declared.Op.{Op}
use Rattle.flow_app.specs.declared.links.Inputs.{Inputs}
use Rattle.flow_app.specs.declared.stores.ReadyRule.{ReadyRule}
use Rattle.flow_app.specs.declared.stores.Store.{Store}
use Rattle.flow_app.specs.Linked.{are_below, has, number_of}

-- the value of a number
abbrev pub value_at : List (Option ℕ) → ℕ → Option ℕ
value_at values i = slice_index_or values i None

-- the value of an input, if it has one
abbrev pub value_of : List (Option ℕ) → Option ℕ → Option ℕ
value_of values None = None
value_of values (Some i) = value_at values i

-- what a name is worth by these values
abbrev pub worth_in : List Definition → List (Option ℕ) → Name → Option ℕ
worth_in flow values name = value_of values (number_of flow name)

-- the value of a `let`, and what a definition gives whose inputs have these numbers
abbrev pub own_value : Definition → Option ℕ
own_value (Let name v) = Some v
own_value (Rule name op left right) = None

-- what a definition gives by the values of its inputs
abbrev pub given_by : List (Option ℕ) → Inputs → Definition → Option ℕ
given_by values asked (Let name v) = Some v
given_by values asked (Rule name op left right) = joined op (value_of values asked.left) (value_of values asked.right)

-- the rule of this number is noted
abbrev pub is_noted : List Bool → ℕ → Bool
is_noted noted i = slice_index_or noted i false

-- each `let` has its value
abbrev pub HasLets : List Definition → List (Option ℕ) → Type 0
HasLets flow values = (i : ℕ) (name : Name) (v : ℕ) → slice_get flow i ≡ Some (Let name v) → value_at values i ≡ Some v

-- no rule has a value
abbrev pub AreLetsAlone : List Definition → List (Option ℕ) → Type 0
AreLetsAlone flow values =
    (i : ℕ) (name : Name) (op : Op) (left right : Name) → slice_get flow i ≡ Some (Rule name op left right) → value_at values i ≡ None

-- each `let` before this number has its value, and no other definition has one
pub record HasLetsTo (flow : List Definition) (values : List (Option ℕ)) (k : ℕ) : Type 0 where
  pub before : (i : ℕ) (name : Name) (v : ℕ) → i < k → slice_get flow i ≡ Some (Let name v) → value_at values i ≡ Some v
  pub fresh : (i : ℕ) (name : Name) (v : ℕ) → k ≤ i → slice_get flow i ≡ Some (Let name v) → value_at values i ≡ None
  pub alone : AreLetsAlone flow values

-- What is right whatever the values are: each rule whose inputs have values is noted, but for those of `rest`, which may follow. What is
-- ready is what is noted, each once.
pub record IsLaid (flow : List Definition) (values : List (Option ℕ)) (noted : List Bool) (ready : List ℕ) (next : ℕ)
    (rest : List ℕ) : Type 0 where
  pub long : length values ≡ length flow
  pub marks : length noted ≡ length flow
  pub inside : next ≤ length ready
  pub within : are_below (length flow) ready ≡ true
  pub rules : (i : ℕ) (name : Name) (op : Op) (left right : Name) → slice_get flow i ≡ Some (Rule name op left right) →
      is_some (gives (worth_in flow values) (Rule name op left right)) ≡ true → (is_noted noted i ≡ true) ⊎ (has rest i ≡ true)
  pub listed : (i : ℕ) → has ready i ≡ true → is_noted noted i ≡ true
  pub all : (i : ℕ) → is_noted noted i ≡ true → has ready i ≡ true
  pub once : (k i : ℕ) → slice_get ready k ≡ Some i → has (take k ready) i ≡ false
  pub grounded : (i : ℕ) (d : Definition) → slice_get flow i ≡ Some d → is_noted noted i ≡ true
      → is_some (gives (worth_in flow values) d) ≡ true

-- the store is laid out for the flow, but for these rules
abbrev pub Lays : List Definition → Store → List ℕ → Type 0
Lays flow s rest = IsLaid flow s.values.items s.noted.items s.ready.items s.next rest

-- of distinct definitions all rules that can be noted are, and each `let` has its value
pub record IsLaidOut (flow : List Definition) (s : Store) : Type 0 where
  pub distinct : AreDistinct flow
  pub laid : Lays flow s []
  pub lets : HasLets flow s.values.items

-- the values are those of the flow
abbrev pub IsSound : List Definition → List (Option ℕ) → Type 0
IsSound flow values = (i : ℕ) (d : Definition) (v : ℕ) → slice_get flow i ≡ Some d → value_at values i ≡ Some v →
    HasValue flow (name_of d) v

-- what was taken of what is noted, that is all of it that does not stand from `next` on, has a value
abbrev pub IsDone : List (Option ℕ) → List Bool → List ℕ → ℕ → Type 0
IsDone values noted ready next =
    (i : ℕ) → is_noted noted i ≡ true → (has (drop next ready) i ≡ true) ⊎ (is_some (value_at values i) ≡ true)

-- all of these
pub record IsWhole (flow : List Definition) (s : Store) : Type 0 where
  pub out : IsLaidOut flow s
  pub sound : IsSound flow s.values.items
  pub done : IsDone s.values.items s.noted.items s.ready.items s.next

-- the first value of a number stays
abbrev pub first_stays : List (Option ℕ) → ℕ → ℕ → List (Option ℕ)
first_stays values i v = if is_some (value_at values i) then values else slice_set values i (Some v)

-- how many rules are still to be taken, noted or not
abbrev pub to_take : Store → ℕ
to_take s = (length s.ready.items + count_by not s.noted.items) - s.next

-- nothing of the first list is lost in the second
abbrev pub Grows : List ℕ → List ℕ → Type 0
Grows old new = (rest : List ℕ) × (new ≡ old ++ rest)

-- all that is noted was taken
abbrev pub IsDrained : Store → Type 0
IsDrained s = length s.ready.items ≤ s.next

-- What a rule does with the values of its inputs, if both have values.

-- the rule with its inputs, if both have values
abbrev pub made_ready : Op → Option ℕ → Option ℕ → Option ReadyRule
made_ready op (Some a) (Some b) = Some (record { op = op; left = a; right = b })
made_ready op a b = None

-- the rule of a definition with its inputs, if both are worth a value
abbrev pub ready_by : (Name → Option ℕ) → Definition → Option ReadyRule
ready_by worth (Let name v) = None
ready_by worth (Rule name op left right) = made_ready op (worth left) (worth right)

-- as well, of a definition whose inputs have these numbers
abbrev pub ready_from : List (Option ℕ) → Inputs → Definition → Option ReadyRule
ready_from values asked (Let name v) = None
ready_from values asked (Rule name op left right) = made_ready op (value_of values asked.left) (value_of values asked.right)
