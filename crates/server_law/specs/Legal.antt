-- What an act asks of the bag, so that its entries are steps of the bag; and what steps of others leave.
use Rattle.std.specs.Prelude.{◌≡◌, ◌≢◌, ◌<◌, ℕ, Bool, true, false, List, Option, None, Some}
use Rattle.adlb_unit.specs.declared.names.BatchId.{BatchId}
use Rattle.adlb_unit.specs.declared.names.CommonRef.{CommonRef}
use Rattle.adlb_unit.specs.declared.names.Rank.{Rank}
use Rattle.adlb_unit.specs.declared.names.Server.{Server}
use Rattle.adlb_unit.specs.declared.names.UnitId.{UnitId}
use Rattle.adlb_unit.specs.declared.units.Unit.{Unit as Work}
use Rattle.bag_ledger.specs.Bag.{Bag, has_declined, has_due, part_of, promise_of, rank_at, unit_of}
use Rattle.bag_ledger.specs.Runs.{IsRunWhere}
use Rattle.bag_ledger.specs.Steps.{StepsWhere}
use Rattle.bag_ledger.specs.declared.entries.Entry.{Entry}
use Rattle.bag_ledger.specs.declared.entries.Entry.TheVariants as enters
use Rattle.bag_ledger.specs.declared.states.Part.{Part}
use Rattle.bag_ledger.specs.declared.states.Placed.{Placed}
use Rattle.bag_ledger.specs.declared.states.RankState.{RankState}
use Rattle.bag_ledger.specs.declared.states.Status.{Status}
use Rattle.bag_ledger.specs.declared.states.Status.TheVariants as is_at
use Rattle.bag_ledger.specs.declared.states.UnitPlace.TheVariants.{Travelling}
use Rattle.bag_law.specs.Sound.{IsSoundBag, PromisesAreSingle}
use Rattle.server_components.specs.declared.wishes.Wish.{Wish}
use Rattle.server_law.specs.Acts.{Accepts, Act, Answers, Arrives, Closes, Counts, Ends_keep, Ends_put, Ends_reserve, Ends_try, Fetches}
use Rattle.server_law.specs.Acts.{Fetches_part, Finds, Finds_alone, Gives, Grants, Grants_try, Hears_done, Hears_exhaust, Keeps, Looks}
use Rattle.server_law.specs.Acts.{Promises, Refuses, Refuses_part, Sends_unit, Tells, Withdraws, batch_of, entries}
use Rattle.server_law.specs.Agreement.{ServerAgrees}
use Rattle.server_law.specs.Carried.{done}
use Rattle.server_law.specs.Moving.{IsHeldAt, IsMeasured, IsPromisedAt}
use Rattle.server_law.specs.State.{ServerModel}
use Rattle.server_law.specs.Sure.{SitsIn, Sure}

-- the part of the batch, if there is one, is not closed
abbrev pub IsOpen : Bag → Option CommonRef → Type 0
IsOpen b None = Unit {0}
IsOpen b (Some common) = (p : Part) → part_of b common.batch ≡ Some p → p.closed ≡ false

-- the rank does this
abbrev pub Does : Bag → Rank → Status → Type 0
Does b rank status = (r : RankState) × (rank_at b rank ≡ Some r) × (r.status ≡ status)

-- the rank asks by this reserve
abbrev pub AsksFor : Bag → Wish → Type 0
AsksFor b wish = Does b wish.rank (is_at.Asking wish.request wish.types)

-- the rank tries by this request
abbrev pub TriesFor : Bag → Wish → Type 0
TriesFor b wish = Does b wish.rank (is_at.Trying wish.request wish.types)

-- the rank puts the unit, and this server has not refused it
abbrev pub Offers : Bag → Server → Work → Type 0
Offers b me unit = (r : RankState) × (rank_at b unit.id.rank ≡ Some r) × (r.status ≡ is_at.Putting unit) × (has_declined r me ≡ false)

-- the rank begins a batch with this common part, and this server has not refused it
abbrev pub Begins : Bag → Server → Rank → ℕ → List ℕ → Type 0
Begins b me rank request common =
    (r : RankState) × (rank_at b rank ≡ Some r) × (r.status ≡ is_at.Keeping request common) × (has_declined r me ≡ false)

-- the rank of the batch ends it
abbrev pub EndsBatch : Bag → ℕ → BatchId → Type 0
EndsBatch b request batch =
    (r : RankState) × (common : CommonRef) × (rank_at b batch.rank ≡ Some r) × (r.status ≡ is_at.Closing request) × (r.batch ≡ Some common)
    × (common.batch ≡ batch)

-- this number of units of the batch was accepted
abbrev pub HasAccepted : Bag → BatchId → ℕ → Type 0
HasAccepted b batch accepted = (p : Part) → part_of b batch ≡ Some p → p.accepted ≡ accepted

-- the rank fetches a unit of the batch, whose own bytes have come
abbrev pub IsOwed : Bag → Rank → ℕ → BatchId → Type 0
IsOwed b rank request batch =
    (id : UnitId) × (u : Placed) × (common : CommonRef) × Does b rank (is_at.Fetching request id true) × (unit_of b id ≡ Some u)
    × (u.unit.common ≡ Some common) × (common.batch ≡ batch)

-- what the act asks of the bag, where exhaustion is found as `found` says
abbrev pub Needs : (Bag → Bool) → Act → Bag → Server → Type 0
Needs found (Accepts unit) b me = Offers b me unit × (unit_of b unit.id ≡ None) × IsOpen b unit.common
Needs found (Refuses unit) b me = Offers b me unit
Needs found (Ends_put unit end) b me = Does b unit.id.rank (is_at.Putting unit)
Needs found (Grants wish unit) b me = AsksFor b wish
Needs found (Ends_reserve wish end) b me = AsksFor b wish
Needs found (Grants_try wish unit) b me = TriesFor b wish
Needs found (Ends_try wish end) b me = TriesFor b wish
Needs found (Looks wish) b me = TriesFor b wish
Needs found (Fetches rank request id unit) b me = Does b rank (is_at.Fetching request id false)
Needs found (Counts rank request kind) b me = Does b rank (is_at.Counting request kind)
Needs found (Gives at wish rest unit) b me = AsksFor b wish
Needs found (Tells at wish rest end) b me = AsksFor b wish
Needs found (Finds from t) b me = found b ≡ true
Needs found Finds_alone b me = found b ≡ true
Needs found (Hears_done rank request) b me = b.done ≡ true
Needs found (Hears_exhaust from) b me = b.exhausted ≡ true
Needs found (Keeps rank request common) b me = Begins b me rank request common × (part_of b (batch_of rank request) ≡ None)
Needs found (Refuses_part rank request common) b me = Begins b me rank request common
Needs found (Ends_keep rank request common end) b me = Does b rank (is_at.Keeping request common)
Needs found (Closes request batch accepted part) b me = EndsBatch b request batch × HasAccepted b batch accepted
Needs found (Fetches_part rank request batch part) b me = IsOwed b rank request batch
Needs found (Answers from wish unit) b me = AsksFor b wish
Needs found (Promises from id length) b me = (from ≢ me) × IsHeldAt b from id × IsMeasured b id length × (promise_of b id ≡ None)
Needs found (Sends_unit to length unit) b me = (to.0 < b.servers) × IsPromisedAt b to unit.id
Needs found (Arrives from unit) b me = (unit_of b unit.id ≡ Some (record { unit = unit; place = Travelling me }))
    × PromisesAreSingle b.promises
Needs found (Withdraws from id) b me = IsHeldAt b from id × PromisesAreSingle b.promises
Needs found a b me = Unit {0}

-- The law. Let a bag agree with the server, with no common part due, and have what the act needs. Then the entries of an act that is sure
-- are steps of the bag. The bag agrees with the server afterwards, and no part is due.
abbrev pub ActsAreLegal : Type 0
ActsAreLegal =
    (found : Bag → Bool) (b : Bag) (s : ServerModel) (a : Act) → ServerAgrees b s → has_due b ≡ false → SitsIn a s → Sure a s
    → Needs found a b s.me → (next : Bag) × IsRunWhere found b (entries a s) next × ServerAgrees next (done a s) × (has_due next ≡ false)

-- Steps of others.

-- the server whose units, parts, promises or findings the entry changes, if there is one
abbrev pub keeper : Entry → Option Server
keeper (enters.Accepted server id) = Some server
keeper (enters.Kept server batch) = Some server
keeper (enters.Closed server batch) = Some server
keeper (enters.Freed server batch) = Some server
keeper (enters.Granted server rank call id) = Some server
keeper (enters.Fetched server rank id) = Some server
keeper (enters.CommonFetched server rank batch) = Some server
keeper (enters.Promised server id length) = Some server
keeper (enters.Left server to id) = Some server
keeper (enters.Arrived server id) = Some server
keeper (enters.Withdrawn server id) = Some server
keeper enters.Exhausted = Some (record { 0 = 0 })
keeper _ = None

-- the law: a step of the bag leaves its agreement with each server that is not the entry's keeper
abbrev pub ServersStay : Type 0
ServersStay =
    (found : Bag → Bool) (b next : Bag) (e : Entry) (s : ServerModel) → IsSoundBag b → StepsWhere found b e next → keeper e ≢ Some s.me
    → ServerAgrees b s → ServerAgrees next s
