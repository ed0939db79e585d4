-- The rules that rank 0 puts, and what the ranks are to have of the flow.
use Rattle.std.specs.Prelude.{◌≡◌, ◌≤◌, ◌<◌, ◌==◌, ℕ, List, [], ◌∷◌, ◌++◌, All, Option, Some, count_by}
use Rattle.adlb_unit.specs.declared.configs.Config.{Config}
use Rattle.adlb_unit.specs.declared.names.Rank.{Rank}
use Rattle.bag_ledger.specs.declared.entries.Answer.TheVariants as answers
use Rattle.bag_ledger.specs.declared.entries.Call.{Call}
use Rattle.bag_ledger.specs.declared.entries.Call.TheVariants as calls_to
use Rattle.bag_ledger.specs.declared.entries.Entry.{Entry}
use Rattle.bag_ledger.specs.declared.entries.Said.{Said}
use Rattle.bag_ledger.specs.Runs.{calls}
use Rattle.flow_law.specs.Flows.{Name}
use Rattle.flow_law.specs.declared.Definition.{Definition}
use Rattle.flow_law.specs.declared.Op.{Op}
use Rattle.work_law.specs.Work.{put_of}
use Rattle.work_law.specs.Books.{said_of}
use Rattle.flow_run_law.specs.Units.{FlowUnit, Forms, IsGoodAnswer, IsRule, Rule, flows}
use Rattle.flow_run_law.specs.Desk.{Desk, unit_of}
use Rattle.flow_run_law.specs.Learned.{WasKnown}
use Rattle.flow_run_law.specs.Run.{IsFlowRank}

-- each rank ran the flow program
abbrev pub IsFlowRun : Forms → Config → List Entry → List Definition → Type 0
IsFlowRun F config ledger flow = (rank : Rank) → rank.0 < config.ranks → IsFlowRank F config ledger flow rank

-- the rules that are put in these calls, in order
abbrev pub rule_of : Option FlowUnit → List ℕ
rule_of (Some (Rule i op a b)) = i ∷ []
rule_of _ = []

-- the number of the rule that a call puts, if it does
abbrev pub rules_of : Forms → Call → List ℕ
rules_of F (calls_to.Put kind prio target answer body) = rule_of (F.read kind answer body)
rules_of F _ = []

-- the numbers of the rules that a transcript puts
unfoldable pub rules_in : Forms → List Said → List ℕ
rules_in F [] = []
rules_in F (s ∷ said) = rules_of F s.call ++ rules_in F said

-- each number is there once at most
abbrev pub IsOnce : List ℕ → Type 0
IsOnce xs = (i : ℕ) → count_by (λ x. x == i) xs ≤ 1

-- this is the number of a rule whose inputs were known in these calls
pub record IsOfKnown (F : Forms) (flow : List Definition) (said : List Said) (i : ℕ) : Type 0 where
  pub name : Name
  pub op : Op
  pub left : Name
  pub right : Name
  pub is_rule : IsRule flow i name op left right
  pub of_left : WasKnown F flow said left
  pub of_right : WasKnown F flow said right

-- the put of an answer was rejected
abbrev pub IsRejectedAnswer : Forms → Said → Type 0
IsRejectedAnswer F s = (x : ℕ × ℕ) × (s ≡ said_of (put_of (flows F) (unit_of x)) answers.Rejected)

-- no put of an answer was rejected on a rank other than 0
abbrev pub AreTaken : Forms → Config → List Entry → Type 0
AreTaken F config ledger =
    (rank : Rank) → rank.0 < config.ranks → (rank.0 ≡ 0 → ⊥) → All (λ (s : Said). IsRejectedAnswer F s → ⊥) (calls config ledger rank)

-- what a desk has stored, owes and keeps are the values of their rules
abbrev pub IsItsValue : List Definition → ℕ × ℕ → Type 0
IsItsValue flow x = IsGoodAnswer flow x.0 x.1

-- what a desk has are values of the flow
pub record IsRightDesk (flow : List Definition) (d : Desk) : Type 0 where
  pub stored : All (IsItsValue flow) d.stored
  pub owed : All (IsItsValue flow) d.owed
  pub kept : All (IsItsValue flow) d.kept
