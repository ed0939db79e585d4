-- The common parts that one server keeps, by batch.
use Rattle.std.specs.Prelude.{IsFalse, ◌≡◌, ◌<◌, ◌≤◌, ◌+◌, ◌==◌, ℕ, Bool, false, not, List, length, map, Option, None, Some, if◌then◌else◌}
use Rattle.std.specs.BTreeMap.{insert_entry}
use Rattle.std.specs.List.{filter}
use Rattle.std.specs.Map.{lookup}
use Rattle.std.specs.Ordering.{nat_cmp, ordering_then}
use Rattle.std.specs.declared.cmp.Ordering.{Ordering}
use Rattle.adlb_unit.specs.Ids.{same_batch}
use Rattle.adlb_unit.specs.declared.names.BatchId.{BatchId}
use Rattle.work_queue.specs.Queue.{Queue, without_common}
use Rattle.server_components.specs.declared.parts.Part.{Part}

-- the batches that have a part here, in the order of their ids, each with its part
abbrev pub Store : Type 0
Store = List (BatchId × Part)

-- the order of ids: by rank, then by number
abbrev pub by_batch : BatchId → BatchId → Ordering
by_batch a b = ordering_then (nat_cmp a.rank.0 b.rank.0) (nat_cmp a.number b.number)

-- the part of the batch, if one is kept
abbrev pub part_in : Store → BatchId → Option Part
part_in store batch = lookup (same_batch batch) store

-- What becomes of a part.

-- it was not fetched, and its batch is open
abbrev pub fresh : List ℕ → Part
fresh bytes = record { bytes = bytes; fetches = 0; accepted = None }

-- its batch is closed, after `accepted` units of it were accepted
abbrev pub closed : ℕ → Part → Part
closed accepted p = record p { accepted = Some accepted }

-- it is fetched once more
abbrev pub fetched : Part → Part
fetched p = record p { fetches = p.fetches + 1 }

-- there were as many fetches as units accepted, if that number is known
abbrev pub is_all : ℕ → Option ℕ → Bool
is_all fetches None = false
is_all fetches (Some accepted) = fetches == accepted

-- its batch is closed, and it was fetched as often as units of the batch were accepted
abbrev pub is_due : Part → Bool
is_due p = is_all p.fetches p.accepted

-- what is kept of it: nothing once it is due
abbrev pub kept : Part → Option Part
kept p = if is_due p then None else Some p

-- What becomes of a store, and of the queue that its bytes are charged to.

-- the batch has a fresh part
abbrev pub with_fresh : Store → BatchId → List ℕ → Store
with_fresh store batch bytes = insert_entry by_batch store batch (fresh bytes)

-- the batch has no part
abbrev pub is_other : BatchId → BatchId × Part → Bool
is_other batch e = not (same_batch batch e.0)

-- the store without the part of a batch
abbrev pub without : Store → BatchId → Store
without store batch = filter (is_other batch) store

-- the part of the batch is as f makes it
abbrev pub turned : BatchId → (Part → Part) → BatchId × Part → BatchId × Part
turned batch f e = if same_batch batch e.0 then (e.0, f e.1) else e

-- the store with the part of a batch changed
abbrev pub with_turned : Store → BatchId → (Part → Part) → Store
with_turned store batch f = map (turned batch f) store

-- a part, if there is one, is due once f has changed it
abbrev pub due_by : (Part → Part) → Option Part → Bool
due_by f None = false
due_by f (Some p) = is_due (f p)

-- the change frees the part of the batch
abbrev pub frees : (Part → Part) → Store → BatchId → Bool
frees f store batch = due_by f (part_in store batch)

-- the part of the batch is changed, and gone if it is then due
abbrev pub changed : (Part → Part) → Store → BatchId → Store
changed f store batch = if frees f store batch then without store batch else with_turned store batch f

-- how many bytes a part has, if there is one
abbrev pub size_of : Option Part → ℕ
size_of None = 0
size_of (Some p) = length p.bytes

-- the bytes of the batch's part are given back if the change frees it
abbrev pub released : (Part → Part) → Store → BatchId → Queue → Queue
released f store batch q = if frees f store batch then without_common q (size_of (part_in store batch)) else q

-- Conditions of calls.

-- the batch has a part of which P holds, and its bytes are among `common` bytes
pub record Keeps (store : Store) (batch : BatchId) (common : ℕ) (P : Part → Type 0) : Type 0 where
  pub part : Part
  pub here : part_in store batch ≡ Some part
  pub charged : length part.bytes ≤ common
  pub holds : P part

-- its batch is open, and it was fetched at most `accepted` times
abbrev pub CanClose : ℕ → Part → Type 0
CanClose accepted p = (p.accepted ≡ None) × (p.fetches ≤ accepted)

-- if its batch is closed, it was fetched fewer times than units of it were accepted
abbrev pub CanFetch : Part → Type 0
CanFetch p = (accepted : ℕ) → p.accepted ≡ Some accepted → p.fetches < accepted

-- What is said of a part, and of a store.

-- its bytes
abbrev pub bytes_of : Part → List ℕ
bytes_of p = p.bytes

-- how often it was fetched, and how many units were accepted if its batch is closed
abbrev pub counts : Part → ℕ × Option ℕ
counts p = (p.fetches, p.accepted)

-- no part that is kept is due
abbrev pub HasNoneDue : Store → Type 0
HasNoneDue store = (batch : BatchId) (p : Part) → part_in store batch ≡ Some p → IsFalse (is_due p)
