-- What is counted of the bag's ids, parts and promises.
use Rattle.std.specs.Prelude.{ℕ, ◌==◌, Bool, true, false, not, List, find, sum_by, Option, Some, None, option_and_then, nat_lt}
use Rattle.adlb_unit.specs.declared.names.UnitId.{UnitId}
use Rattle.adlb_unit.specs.declared.names.BatchId.{BatchId}
use Rattle.adlb_unit.specs.declared.names.CommonRef.{CommonRef}
use Rattle.adlb_unit.specs.Ids.{same_batch, same_unit}
use Rattle.bag_ledger.specs.declared.entries.Entry.{Entry}
use Rattle.bag_ledger.specs.declared.entries.Entry.TheVariants.{Closed, CommonFetched, Freed}
use Rattle.bag_ledger.specs.declared.states.RankState.{RankState}
use Rattle.bag_ledger.specs.declared.states.Placed.{Placed}
use Rattle.bag_ledger.specs.declared.states.Part.{Part}
use Rattle.bag_ledger.specs.declared.states.Promise.{Promise}
use Rattle.bag_ledger.specs.declared.states.UnitPlace.{UnitPlace}
use Rattle.bag_ledger.specs.declared.states.UnitPlace.TheVariants.{Spent}
use Rattle.bag_ledger.specs.declared.states.Status.{Status}
use Rattle.bag_ledger.specs.declared.states.Status.TheVariants as does
use Rattle.bag_ledger.specs.Bag.{is_due}
use Rattle.bag_ledger.specs.Step.{is_of}

-- 1 where the test passes; the number where it passes
abbrev pub one : Bool → ℕ
one true = 1
one false = 0

-- a number if the test passes, and otherwise 0
abbrev pub if_so : Bool → ℕ → ℕ
if_so true n = n
if_so false n = 0

-- the weight of what is looked up, if it is there
abbrev pub if_there : {X : Type 0} → (X → ℕ) → Option X → ℕ
if_there f None = 0
if_there f (Some x) = f x

-- Look-ups.

-- the unit of this id, and the common part of the batch, if it is there
abbrev pub unit_in : List Placed → UnitId → Option Placed
unit_in units id = find (λ u. same_unit u.unit.id id) units

-- the first part of a batch in a list
abbrev pub part_in : List Part → BatchId → Option Part
part_in parts batch = find (λ p. same_batch p.batch batch) parts

-- Ids.

-- the batch that began in the call of this number
abbrev pub batch_id : UnitId → BatchId
batch_id id = record { rank = id.rank; number = id.number }

-- how many units, parts and promises have this id
abbrev pub units_named : UnitId → List Placed → ℕ
units_named id units = sum_by (λ u. one (same_unit u.unit.id id)) units

-- how many parts the id of a unit names as a batch
abbrev pub parts_named : UnitId → List Part → ℕ
parts_named id parts = sum_by (λ p. one (same_batch p.batch (batch_id id))) parts

-- how many promises the id of a unit has
abbrev pub promises_named : UnitId → List Promise → ℕ
promises_named id promises = sum_by (λ p. one (same_unit p.id id)) promises

-- 1 where a unit or a part of this number is brought
abbrev pub brings : ℕ → Status → ℕ
brings n (does.Putting u) = one (u.id.number == n)
brings n (does.Keeping call common) = one (call == n)
brings n _ = 0

-- what the rank brings at this count
abbrev pub brought : ℕ → RankState → ℕ
brought n r = brings n r.status

-- 1 where the rank has used the number
abbrev pub used : ℕ → RankState → ℕ
used n r = one (nat_lt n r.next)

-- Common parts.

-- what the parts of the batch were accepted and fetched, of which there is one at most
abbrev pub accepted_of : BatchId → List Part → ℕ
accepted_of batch parts = sum_by (λ p. if_so (same_batch p.batch batch) p.accepted) parts

-- how often the parts of a batch were fetched
abbrev pub fetched_of : BatchId → List Part → ℕ
fetched_of batch parts = sum_by (λ p. if_so (same_batch p.batch batch) p.fetched) parts

-- the unit at this place is spent
abbrev pub is_spent : UnitPlace → Bool
is_spent Spent = true
is_spent _ = false

-- 1 for a unit of the batch that is not spent
abbrev pub unspent : BatchId → Placed → ℕ
unspent batch u = if_so (not (is_spent u.place)) (one (is_of batch u.unit.common))

-- the common part of the unit of this id
abbrev pub common_in : List Placed → UnitId → Option CommonRef
common_in units id = option_and_then (λ u. u.unit.common) (unit_in units id)

-- 1 for a rank that fetches a unit of the batch whose own bytes have come; of how many ranks this is so
abbrev pub owing : BatchId → List Placed → Status → ℕ
owing batch units (does.Fetching call id true) = one (is_of batch (common_in units id))
owing batch units _ = 0

-- how many fetches of the batch's part are still due
abbrev pub owes : BatchId → List Placed → List RankState → ℕ
owes batch units ranks = sum_by (λ r. owing batch units r.status) ranks

-- how many parts are due; 1 for an entry that frees one, and for one that may make one due
abbrev pub dues : List Part → ℕ
dues parts = sum_by (λ p. one (is_due p)) parts

-- the entry frees a part
abbrev pub frees : Entry → ℕ
frees (Freed server batch) = 1
frees _ = 0

-- the entry may make a part due
abbrev pub may_make_due : Entry → ℕ
may_make_due (Closed server batch) = 1
may_make_due (CommonFetched server rank batch) = 1
may_make_due _ = 0
