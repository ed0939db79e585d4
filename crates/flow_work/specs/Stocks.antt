-- The values of rules that a store brings.
use Rattle.std.specs.Prelude.{◌≡◌, ◌<◌, ℕ, List, [], ◌∷◌, Contains, Option, Some, None}
use Rattle.flow_law.specs.Flows.{Name}
use Rattle.flow_law.specs.declared.Definition.{Definition}
use Rattle.flow_law.specs.declared.Definition.TheVariants.{Let, Rule}
use Rattle.flow_law.specs.declared.Op.{Op}
use Rattle.flow_app.specs.Stored.{value_at}
use Rattle.flow_run_law.specs.Units.{IsRule}

-- the value of a definition, if it is a rule
abbrev pub rule_value : Definition → Option ℕ → Option ℕ
rule_value (Let name v) value = None
rule_value (Rule name op left right) value = value

-- this is the number of a rule, with its value
pub record IsValueOf (flow : List Definition) (values : List (Option ℕ)) (x : ℕ × ℕ) : Type 0 where
  pub name : Name
  pub op : Op
  pub left : Name
  pub right : Name
  pub is : IsRule flow x.0 name op left right
  pub value : value_at values x.0 ≡ Some x.1

-- these are the values of the rules below this number
pub record AreValuesTo (flow : List Definition) (values : List (Option ℕ)) (own : List (ℕ × ℕ)) (k : ℕ) : Type 0 where
  pub each : (x : ℕ × ℕ) → Contains own x → IsValueOf flow values x
  pub all : (i v : ℕ) (name : Name) (op : Op) (left right : Name) → IsRule flow i name op left right → i < k →
      value_at values i ≡ Some v → Contains own (i, v)

-- the number with its value, if there is one
abbrev pub value_with : ℕ → Option ℕ → List (ℕ × ℕ)
value_with number None = []
value_with number (Some v) = (number, v) ∷ []
