-- What holds of the bag after every legal run, subject by subject, and what is read off it.
use Rattle.std.specs.Prelude.{Contains, ℕ, ◌≡◌, ◌≤◌, ◌<◌, ◌+◌, Bool, true, false, List, length, find, sum_by, Option, Some, None, slice_get}
use Rattle.adlb_unit.specs.declared.names.Rank.{Rank}
use Rattle.adlb_unit.specs.declared.names.Server.{Server}
use Rattle.adlb_unit.specs.declared.names.UnitId.{UnitId}
use Rattle.adlb_unit.specs.declared.names.BatchId.{BatchId}
use Rattle.adlb_unit.specs.declared.names.CommonRef.{CommonRef}
use Rattle.adlb_unit.specs.declared.notes.End.{End}
use Rattle.adlb_unit.specs.Ids.{same_unit}
use Rattle.bag_ledger.specs.declared.states.RankState.{RankState}
use Rattle.bag_ledger.specs.declared.states.Placed.{Placed}
use Rattle.bag_ledger.specs.declared.states.Part.{Part}
use Rattle.bag_ledger.specs.declared.states.Promise.{Promise}
use Rattle.bag_ledger.specs.declared.states.UnitPlace.TheVariants.{Pinned, Spent}
use Rattle.bag_ledger.specs.declared.states.Status.{Status}
use Rattle.bag_ledger.specs.declared.states.Status.TheVariants as does
use Rattle.bag_ledger.specs.Bag.{Bag, is_placed_at, unit_of, part_of, promise_of}
use Rattle.bag_ledger.specs.Steps.{Is, has_cause}
use Rattle.bag_ledger.specs.Words.{IsTracked}
use Rattle.bag_law.specs.Counts.{accepted_of, brought, fetched_of, if_there, owes, part_in, parts_named, promises_named, unit_in}
use Rattle.bag_law.specs.Counts.{units_named, unspent, used}

-- of each id there is one unit, part or pending put or batch beginning at most, and none before its rank has used the number
pub record IdsAreNew (ranks : List RankState) (units : List Placed) (parts : List Part) : Type 0 where
  pub each : (id : UnitId) →
      units_named id units + parts_named id parts + if_there (brought id.number) (slice_get ranks id.rank.0)
      ≤ if_there (used id.number) (slice_get ranks id.rank.0)

-- Batches.

-- a pending put is named by its rank, and shares the rank's batch; a rank that begins a batch has none
abbrev pub IsBroughtBy : ℕ → RankState → Status → Type 0
IsBroughtBy n r (does.Putting u) = (u.id.rank.0 ≡ n) × (u.common ≡ r.batch)
IsBroughtBy n r (does.Keeping call common) = r.batch ≡ None
IsBroughtBy n r _ = Prim.Unit {0}

-- the part that is referred to is there and open, at that server and of that length
abbrev pub HasOpenPart : List Part → CommonRef → Type 0
HasOpenPart parts c =
    (p : Part) × (part_in parts c.batch ≡ Some p) × (p.closed ≡ false) × (p.server ≡ c.server) × (length p.common ≡ c.length)

-- the batch of the rank of this number is its own, and has an open part
abbrev pub IsOpenBatch : List Part → ℕ → Option CommonRef → Type 0
IsOpenBatch parts n None = Prim.Unit {0}
IsOpenBatch parts n (Some c) = (c.batch.rank.0 ≡ n) × HasOpenPart parts c

-- the batch is going on at its rank
abbrev pub IsRanksBatch : List RankState → BatchId → Type 0
IsRanksBatch ranks batch =
    (r : RankState) × (c : CommonRef) × (slice_get ranks batch.rank.0 ≡ Some r) × (r.batch ≡ Some c) × (c.batch ≡ batch)

-- each rank's batch is an open part, and each open part is its rank's batch. A freed part is closed, and was fetched as often as
-- units of its batch were accepted
pub record BatchesAreOpen (ranks : List RankState) (parts : List Part) : Type 0 where
  pub brought : (n : ℕ) (r : RankState) → slice_get ranks n ≡ Some r → IsBroughtBy n r r.status
  pub batch : (n : ℕ) (r : RankState) → slice_get ranks n ≡ Some r → IsOpenBatch parts n r.batch
  pub open_is : (batch : BatchId) (p : Part) → part_in parts batch ≡ Some p → p.closed ≡ false → IsRanksBatch ranks batch
  pub freed : (batch : BatchId) (p : Part) → part_in parts batch ≡ Some p → p.freed ≡ true →
      (p.closed ≡ true) × (p.fetched ≡ p.accepted)

-- each part is at a server of the run
pub record PartsAreThere (parts : List Part) (servers : ℕ) : Type 0 where
  pub each : (batch : BatchId) (p : Part) → part_in parts batch ≡ Some p → p.server.0 < servers

-- the part that is referred to is there, at that server and of that length
abbrev pub HasPart : List Part → Option CommonRef → Type 0
HasPart parts None = Prim.Unit {0}
HasPart parts (Some c) =
    (p : Part) × (part_in parts c.batch ≡ Some p) × (p.server ≡ c.server) × (length p.common ≡ c.length)

-- each unit has the part that it shares
pub record UnitsHaveParts (units : List Placed) (parts : List Part) : Type 0 where
  pub each : (id : UnitId) (u : Placed) → unit_in units id ≡ Some u → HasPart parts u.unit.common

-- of each batch as many units were accepted as its common bytes were fetched, its units are not spent, and ranks are owed them
pub record PartsCount (ranks : List RankState) (units : List Placed) (parts : List Part) : Type 0 where
  pub each : (batch : BatchId) →
      accepted_of batch parts ≡ fetched_of batch parts + sum_by (unspent batch) units + owes batch units ranks

-- Fetches.

-- a unit that is fetched is pinned to the rank until its own bytes come, and then spent, with a common part
abbrev pub IsReady : List Placed → ℕ → UnitId → Bool → Type 0
IsReady units n id false =
    (u : Placed) × (server : Server) × (rank : Rank) × (unit_in units id ≡ Some u)
    × (u.place ≡ Pinned server rank) × (rank.0 ≡ n)
IsReady units n id true =
    (u : Placed) × (c : CommonRef) × (unit_in units id ≡ Some u) × (u.place ≡ Spent) × (u.unit.common ≡ Some c)

-- if the rank fetches, what it fetches is ready
abbrev pub IsFetchOf : List Placed → ℕ → Status → Type 0
IsFetchOf units n (does.Fetching call id own) = IsReady units n id own
IsFetchOf units n _ = Prim.Unit {0}

-- each rank that fetches has its unit ready
pub record FetchesAreReady (ranks : List RankState) (units : List Placed) : Type 0 where
  pub each : (n : ℕ) (r : RankState) → slice_get ranks n ≡ Some r → IsFetchOf units n r.status

-- Promises and ends.

-- of each unit there is one promise at most
pub record PromisesAreSingle (promises : List Promise) : Type 0 where
  pub each : (id : UnitId) → promises_named id promises ≤ 1

-- a promised unit is not at the server that promised
pub record PromisesAreApart (units : List Placed) (promises : List Promise) : Type 0 where
  pub each : (id : UnitId) (u : Placed) (p : Promise) → unit_in units id ≡ Some u →
      find (λ q. same_unit q.id id) promises ≡ Some p → is_placed_at p.server u.place ≡ false

-- an end that a rank was told has its cause
pub record EndsHaveCauses (ranks : List RankState) (has : End → Bool) : Type 0 where
  pub each : (n : ℕ) (r : RankState) (end : End) → slice_get ranks n ≡ Some r → r.end ≡ Some end → has end ≡ true

-- what holds of the bag after every legal run
pub record IsSoundBag (b : Bag) : Type 0 where
  pub ids : IdsAreNew b.ranks b.units b.parts
  pub batches : BatchesAreOpen b.ranks b.parts
  pub there : PartsAreThere b.parts b.servers
  pub shares : UnitsHaveParts b.units b.parts
  pub counts : PartsCount b.ranks b.units b.parts
  pub fetches : FetchesAreReady b.ranks b.units
  pub single : PromisesAreSingle b.promises
  pub tracked : IsTracked b
  pub apart : PromisesAreApart b.units b.promises
  pub told : EndsHaveCauses b.ranks (has_cause b)

-- Read off a sound bag.

-- each unit, part and promise is the one that its id finds
pub record AreFound (b : Bag) : Type 0 where
  pub unit : (u : Placed) → Contains b.units u → unit_of b u.unit.id ≡ Some u
  pub part : (p : Part) → Contains b.parts p → part_of b p.batch ≡ Some p
  pub promise : (p : Promise) → Contains b.promises p → promise_of b p.id ≡ Some p

-- the number of each unit and part was used by its rank
pub record AreUsed (b : Bag) : Type 0 where
  pub unit : (id : UnitId) (u : Placed) → unit_of b id ≡ Some u → (r : RankState) × Is b id.rank r × (id.number < r.next)
  pub part : (batch : BatchId) (p : Part) → part_of b batch ≡ Some p → (r : RankState) × Is b batch.rank r × (batch.number < r.next)

-- the part that is referred to is kept, not freed, and was fetched less often than units of its batch were accepted
abbrev pub IsKept : Bag → CommonRef → Type 0
IsKept b c =
    (p : Part) × (part_of b c.batch ≡ Some p) × (p.server ≡ c.server) × (length p.common ≡ c.length) × (p.freed ≡ false)
    × (p.fetched < p.accepted)
