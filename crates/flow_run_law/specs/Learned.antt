-- What rank 0 learned in its calls.
use Rattle.std.specs.Prelude.{◌≡◌, ℕ, List, Contains, Some}
use Rattle.adlb_unit.specs.declared.notes.UnitNote.{UnitNote}
use Rattle.bag_ledger.specs.declared.entries.Answer.TheVariants as answers
use Rattle.bag_ledger.specs.declared.entries.Call.TheVariants as calls_to
use Rattle.bag_ledger.specs.declared.entries.Said.{Said}
use Rattle.flow_law.specs.Flows.{Name}
use Rattle.flow_law.specs.declared.Definition.{Definition}
use Rattle.flow_law.specs.declared.Definition.TheVariants as defines
use Rattle.flow_law.specs.declared.Op.{Op}
use Rattle.work_law.specs.Work.{fetched_unit, put_of}
use Rattle.work_law.specs.Books.{said_of}
use Rattle.flow_run_law.specs.Units.{Answer, FlowUnit, Forms, IsRule, Rule, flows}

-- it fetched this unit
pub record HasFetched (F : Forms) (said : List Said) (u : FlowUnit) : Type 0 where
  pub note : UnitNote
  pub bytes : List ℕ
  pub there : Contains said (said_of (calls_to.Fetch note.id) (answers.Body bytes))
  pub is : fetched_unit (flows F) note bytes ≡ Some u

-- It learned the value of the rule of this number. It fetched its answer; or the put of its unit was rejected; or it fetched its unit, and
-- the put of its answer was rejected.
pub data HasLearned (F : Forms) (said : List Said) (i : ℕ) : Type 0 where
  by_answer : (v : ℕ) → HasFetched F said (Answer i v) → HasLearned F said i
  by_rule : (op : Op) (a b : ℕ) → Contains said (said_of (put_of (flows F) (Rule i op a b)) answers.Rejected) → HasLearned F said i
  by_work : (op : Op) (a b v : ℕ) → HasFetched F said (Rule i op a b) →
      Contains said (said_of (put_of (flows F) (Answer i v)) answers.Rejected) → HasLearned F said i

-- a name was known to it: a `let` gives it, or it learned the value of its rule
pub data WasKnown (F : Forms) (flow : List Definition) (said : List Said) (name : Name) : Type 0 where
  let_is : (v : ℕ) → Contains flow (defines.Let name v) → WasKnown F flow said name
  rule_is : (i : ℕ) (op : Op) (left right : Name) → IsRule flow i name op left right → HasLearned F said i → WasKnown F flow said name
