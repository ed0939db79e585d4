-- A rank while it works: its calls so far, and what it has of its desk.
use Rattle.std.specs.Prelude.{◌≡◌, ◌⊎◌, ℕ, Bool, true, false, List, [], ◌∷◌, ◌++◌, length, Contains, MatchBool, Option, Some, is_some, take}
use Rattle.bag_ledger.specs.declared.entries.Said.{Said}
use Rattle.rank_client.specs.Calls.{unanswered}
use Rattle.rank_client.specs.Link.{LinkModel}
use Rattle.flow_law.specs.Flows.{Name}
use Rattle.flow_law.specs.declared.Definition.{Definition}
use Rattle.flow_law.specs.declared.Op.{Op}
use Rattle.flow_app.specs.Linked.{has}
use Rattle.flow_app.specs.Stored.{IsDrained, IsLaidOut, value_at, worth_in}
use Rattle.flow_app.specs.declared.stores.Store.{Store}
use Rattle.flow_run_law.specs.Desk.{Desk, Goes, IsFree, at_start, brought}
use Rattle.flow_run_law.specs.Units.{FlowUnit, Forms, IsRule}
use Rattle.flow_units.specs.declared.rules.RuleUnit.{RuleUnit}
use Rattle.flow_work.specs.Follows.{IsUnderWay}
use Rattle.flow_work.specs.Stocks.{AreValuesTo}
use Rattle.flow_work.specs.declared.stock.Home.{Home}

-- what a rank has of its desk: of the stored values, the rules that were put, the answers that it keeps, and whether the oldest was put
-- once more
abbrev pub Has : Type 1
Has = List (ℕ × ℕ) → List ℕ → List (ℕ × ℕ) → Bool → Type 0

-- what is said of a desk's parts, of the desk
abbrev pub OfDesk : Has → Desk → Type 0
OfDesk A d = A d.stored d.put d.kept d.tried

-- the rank is free to make its next call, and has this of its desk
pub record IsGoing (F : Forms) (flow : Option (List Definition)) (said : List Said) (A : Has) : Type 0 where
  pub desk : Desk
  pub goes : Goes F flow at_start said desk
  pub free : IsFree desk
  pub agrees : OfDesk A desk

-- this unit came to it, if it is one
pub record HasCome (F : Forms) (flow : Option (List Definition)) (said : List Said) (A : Has) (unit : Option FlowUnit) : Type 0 where
  pub desk : Desk
  pub goes : Goes F flow at_start said (brought flow unit desk)
  pub free : IsFree desk
  pub agrees : OfDesk A desk

-- it is to put this answer
pub record Owes (F : Forms) (flow : Option (List Definition)) (said : List Said) (A : Has) (x : ℕ × ℕ) : Type 0 where
  pub desk : Desk
  pub goes : Goes F flow at_start said (record desk { owed = x ∷ [] })
  pub free : IsFree desk
  pub agrees : OfDesk A desk

-- an end was told
pub record IsStopped (F : Forms) (flow : Option (List Definition)) (said : List Said) (A : Has) : Type 0 where
  pub desk : Desk
  pub goes : Goes F flow at_start said desk
  pub over : desk.ended ≡ true
  pub agrees : OfDesk A desk

-- it goes on with this, or an end was told and it has that
abbrev pub Passes : Forms → Option (List Definition) → List Said → Has → Has → Bool → Type 0
Passes F flow said A B on = MatchBool on (IsGoing F flow said A) (IsStopped F flow said B)

-- the calls are those of the program, with what is begun after them
abbrev pub IsOnWay : Forms → Option (List Definition) → LinkModel → Type 0
IsOnWay F flow m = IsUnderWay F flow m.said (unanswered m.failed m.begun)

-- Rank 0, which has the flow.

-- its store has the values of the rules that are stored, and of each `let`; and it keeps these answers
pub record HasStored (flow : List Definition) (h : Home) (stored kept : List (ℕ × ℕ)) : Type 0 where
  pub out : IsLaidOut flow h.store
  pub sound : (i v : ℕ) (name : Name) (op : Op) (left right : Name) → IsRule flow i name op left right →
      value_at h.store.values.items i ≡ Some v → Contains stored (i, v)
  pub whole : (i v : ℕ) (name : Name) (op : Op) (left right : Name) → IsRule flow i name op left right → Contains stored (i, v) →
      is_some (value_at h.store.values.items i) ≡ true
  pub keeps : kept ≡ h.kept.items

-- the rules that it put are those that it took of what is ready
pub record HasPut (flow : List Definition) (s : Store) (put : List ℕ) : Type 0 where
  pub taken : (i : ℕ) (name : Name) (op : Op) (left right : Name) → IsRule flow i name op left right →
      has (take s.next s.ready.items) i ≡ true → Contains put i
  pub all : (i : ℕ) → Contains put i → has (take s.next s.ready.items) i ≡ true

-- when an end was told; while it goes on; and when it took all that is ready
abbrev pub Stored : List Definition → Home → Has
Stored flow h stored put kept tried = HasStored flow h stored kept

-- the rank with the flow: its store, and the rules that it put
abbrev pub AtHome : List Definition → Home → Has
AtHome flow h stored put kept tried = HasStored flow h stored kept × HasPut flow h.store put

-- all that was ready is put
abbrev pub AllPut : List Definition → Home → Has
AllPut flow h stored put kept tried = HasStored flow h stored kept × HasPut flow h.store put × IsDrained h.store

-- a unit is a rule with the values that its inputs have in the store
pub record Carries (flow : List Definition) (s : Store) (unit : RuleUnit) : Type 0 where
  pub name : Name
  pub left : Name
  pub right : Name
  pub is : IsRule flow unit.number name unit.op left right
  pub of_left : worth_in flow s.values.items left ≡ Some unit.left
  pub of_right : worth_in flow s.values.items right ≡ Some unit.right

-- what it brings: the values of the rules of its store, and the answers that it keeps
pub record Brings (flow : List Definition) (h : Home) (values : List (ℕ × ℕ)) : Type 0 where
  pub own : List (ℕ × ℕ)
  pub are : AreValuesTo flow h.store.values.items own (length flow)
  pub all : values ≡ own ++ h.kept.items

-- Another rank, which keeps these answers.

-- the answers that a rank keeps
abbrev pub Keeping : List (ℕ × ℕ) → Has
Keeping answers stored put kept tried = kept ≡ answers

-- it did not put the oldest once more since its last reserve
abbrev pub Fresh : List (ℕ × ℕ) → Has
Fresh answers stored put kept tried = (kept ≡ answers) × (tried ≡ false)

-- it did, if it keeps any
abbrev pub HasTried : List (ℕ × ℕ) → Has
HasTried answers stored put kept tried = (kept ≡ answers) × ((kept ≡ []) ⊎ (tried ≡ true))
