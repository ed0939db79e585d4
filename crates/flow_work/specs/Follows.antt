-- The calls of a rank of a flow, and with what outcome it ends.
use Rattle.std.specs.Prelude.{◌≡◌, ℕ, true, List, [], ◌∷◌, ◌++◌, Contains, Option, Some, None}
use Rattle.bag_ledger.specs.declared.entries.Answer.{Answer}
use Rattle.bag_ledger.specs.declared.entries.Call.{Call}
use Rattle.bag_ledger.specs.declared.entries.Said.{Said}
use Rattle.flow_law.specs.Flows.{Name}
use Rattle.flow_law.specs.declared.Definition.{Definition}
use Rattle.flow_law.specs.declared.Op.{Op}
use Rattle.work_law.specs.Books.{said_of}
use Rattle.flow_run_law.specs.Desk.{Desk, Goes, at_start}
use Rattle.flow_run_law.specs.Units.{Forms, IsRule}

-- the calls that a rank can have made, if it has this flow or none
pub record IsSoFar (F : Forms) (flow : Option (List Definition)) (said : List Said) : Type 0 where
  pub last : Desk
  pub goes : Goes F flow at_start said last

-- those, and the call that it has begun after them and that is not answered, if there is one: with some answer it is the next
abbrev pub IsUnderWay : Forms → Option (List Definition) → List Said → Option Call → Type 0
IsUnderWay F flow said None = IsSoFar F flow said
IsUnderWay F flow said (Some call) = (answer : Answer) × IsSoFar F flow (said ++ said_of call answer ∷ [])

-- these are the values of rules that are stored: each is stored, and no rule of which a value is stored is left out
pub record AreStored (flow : List Definition) (stored own : List (ℕ × ℕ)) : Type 0 where
  pub each : (x : ℕ × ℕ) → Contains own x → Contains stored x
  pub all : (i v : ℕ) (name : Name) (op : Op) (left right : Name) → IsRule flow i name op left right → Contains stored (i, v) →
      (w : ℕ) × Contains own (i, w)

-- a rank without the flow stores none
abbrev pub IsOwn : Option (List Definition) → List (ℕ × ℕ) → List (ℕ × ℕ) → Type 0
IsOwn None stored own = own ≡ []
IsOwn (Some flow) stored own = AreStored flow stored own

-- The calls that it has made at its end, which was told, and what it brings. These are the values of rules that it stored, and the answers
-- that no server took and that it keeps.
pub record Follows (F : Forms) (flow : Option (List Definition)) (said : List Said) (values : List (ℕ × ℕ)) : Type 0 where
  pub last : Desk
  pub goes : Goes F flow at_start said last
  pub over : last.ended ≡ true
  pub own : List (ℕ × ℕ)
  pub stored : IsOwn flow last.stored own
  pub brings : values ≡ own ++ last.kept
