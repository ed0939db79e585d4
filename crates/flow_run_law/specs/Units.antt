-- The units of a flow program: a rule with the values of its inputs, and the value of a rule.
use Rattle.std.specs.Prelude.{◌≡◌, ℕ, Bool, true, List, [], Option, Some, slice_get}
use Rattle.adlb_unit.specs.declared.names.Rank.{Rank}
use Rattle.adlb_unit.specs.declared.names.Target.TheVariants.{Any, Only}
use Rattle.adlb_unit.specs.declared.names.WorkType.{WorkType}
use Rattle.balance_law.specs.Orderly.{IsAimed}
use Rattle.flow_law.specs.Flows.{HasValue, Name}
use Rattle.flow_law.specs.declared.Definition.{Definition}
use Rattle.flow_law.specs.declared.Definition.TheVariants as defines
use Rattle.flow_law.specs.declared.Op.{Op}
use Rattle.work_law.specs.Work.{Form, Work}

-- the rule of this number and its op, with the values of its inputs; or the value of the rule of this number
pub data FlowUnit : Type 0 where
  Rule : ℕ → Op → ℕ → ℕ → FlowUnit
  Answer : ℕ → ℕ → FlowUnit

-- how units are put and read is elsewhere
pub record Forms : Type 0 where
  pub form : FlowUnit → Form
  pub fits : FlowUnit → Bool
  pub read : WorkType → Option Rank → List ℕ → Option FlowUnit

-- no common bytes are of use
abbrev pub flows : Forms → Work FlowUnit
flows F = record { form = F.form; fits = F.fits; read = F.read; over = λ unit common. []; makes = λ common unit. [] }

-- the definition of this number is this rule
abbrev pub IsRule : List Definition → ℕ → Name → Op → Name → Name → Type 0
IsRule flow i name op left right = slice_get flow i ≡ Some (defines.Rule name op left right)

-- a rule carries the values of its inputs
pub record IsGoodRule (flow : List Definition) (i : ℕ) (op : Op) (a b : ℕ) : Type 0 where
  pub name : Name
  pub left : Name
  pub right : Name
  pub is : IsRule flow i name op left right
  pub of_left : HasValue flow left a
  pub of_right : HasValue flow right b

-- and an answer the value of its rule
pub record IsGoodAnswer (flow : List Definition) (i v : ℕ) : Type 0 where
  pub name : Name
  pub op : Op
  pub left : Name
  pub right : Name
  pub is : IsRule flow i name op left right
  pub of : HasValue flow name v

-- what a unit carries are values of the flow
abbrev pub IsGood : List Definition → FlowUnit → Type 0
IsGood flow (Rule i op a b) = IsGoodRule flow i op a b
IsGood flow (Answer i v) = IsGoodAnswer flow i v

-- a rule is of work type 0; an answer is of work type 1, is for rank 0 alone, and nothing else is read as one
pub record HasTypes (F : Forms) : Type 0 where
  pub rule : (i : ℕ) (op : Op) (a b : ℕ) → (F.form (Rule i op a b)).kind.0 ≡ 0
  pub answer : (i v : ℕ) → (F.form (Answer i v)).target ≡ Only (record { 0 = 0 })
  pub read : (kind : WorkType) (rank : Option Rank) (body : List ℕ) (i v : ℕ) → F.read kind rank body ≡ Some (Answer i v) → kind.0 ≡ 1

-- each unit is for any rank or for one of these ranks
abbrev pub AimsAt : Forms → ℕ → Type 0
AimsAt F ranks = (unit : FlowUnit) → IsAimed ranks (F.form unit).target

-- the forms without targets, which reading does not need
abbrev pub untargeted : Forms → Forms
untargeted F = record {
  form = λ unit. record {
    kind = (F.form unit).kind;
    prio = (F.form unit).prio;
    target = Any;
    answer = (F.form unit).answer;
    body = (F.form unit).body;
  };
  fits = F.fits;
  read = F.read;
}

-- what is put is read back, and is for any rank or for one of these ranks
pub record AreForms (ranks : ℕ) (F : Forms) : Type 0 where
  pub read_back : (unit : FlowUnit) → F.fits unit ≡ true →
      F.read (F.form unit).kind (F.form unit).answer (F.form unit).body ≡ Some unit
  pub aimed : AimsAt F ranks
