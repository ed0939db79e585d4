-- What the values that ranks bring are to be.
use Rattle.std.specs.Prelude.{◌≡◌, ℕ, List, All, Some, slice_get}
use Rattle.flow_law.specs.Flows.{HasValue, Name}
use Rattle.flow_law.specs.declared.Definition.{Definition}
use Rattle.flow_law.specs.declared.Definition.TheVariants.{Rule}
use Rattle.flow_law.specs.declared.Op.{Op}
use Rattle.flow_app.specs.declared.finishing.FlowOutcome.{FlowOutcome}

-- if this is the number of a rule, this is its value
abbrev pub IsItsValue : List Definition → ℕ × ℕ → Type 0
IsItsValue flow (i, v) = (name : Name) (op : Op) (left right : Name) → slice_get flow i ≡ Some (Rule name op left right)
    → HasValue flow name v

-- all that the ranks bring are values of the flow
abbrev pub AreValues : List Definition → List FlowOutcome → Type 0
AreValues flow outcomes = All (λ o. All (IsItsValue flow) o.values.items) outcomes
