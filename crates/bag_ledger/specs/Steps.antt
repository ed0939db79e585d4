-- One step of the bag: where each entry is legal, and what it changes.
use Rattle.std.specs.Prelude.{ℕ, zero, suc, ◌+◌, ◌<◌, ◌≤◌, ◌≡◌, Bool, true, false, ◌||◌, not, List, [], ◌∷◌, ◌++◌, length, filter, Option}
use Rattle.std.specs.Prelude.{Some, None, IsTrue, IsFalse, option_and_then, if◌then◌else◌}
use Rattle.adlb_unit.specs.declared.names.Rank.{Rank}
use Rattle.adlb_unit.specs.declared.names.Server.{Server}
use Rattle.adlb_unit.specs.declared.names.WorkType.{WorkType}
use Rattle.adlb_unit.specs.declared.names.UnitId.{UnitId}
use Rattle.adlb_unit.specs.declared.names.BatchId.{BatchId}
use Rattle.adlb_unit.specs.declared.names.CommonRef.{CommonRef}
use Rattle.adlb_unit.specs.declared.notes.End.{End}
use Rattle.adlb_unit.specs.declared.notes.End.TheVariants as ends_by
use Rattle.adlb_unit.specs.declared.units.Unit.{Unit}
use Rattle.adlb_unit.specs.Permit.{permitted}
use Rattle.adlb_unit.specs.Targets.{home_of}
use Rattle.adlb_unit.specs.Ids.{same_batch, same_unit}
use Rattle.bag_ledger.specs.declared.entries.Entry.{Entry}
use Rattle.bag_ledger.specs.declared.entries.Entry.TheVariants.{Putting, Refused, Accepted, Rejected, Keeping, Kept, Closing, Closed, Freed}
use Rattle.bag_ledger.specs.declared.entries.Entry.TheVariants.{Asked, Tried, Granted, Looked, NoCurrent, Fetching, Fetched, CommonFetched}
use Rattle.bag_ledger.specs.declared.entries.Entry.TheVariants.{Promised, Left, Arrived, Withdrawn, Counting, Counted, Done, Exhausted}
use Rattle.bag_ledger.specs.declared.entries.Entry.TheVariants.{Over, Finished}
use Rattle.bag_ledger.specs.declared.states.RankState.{RankState}
use Rattle.bag_ledger.specs.declared.states.Placed.{Placed}
use Rattle.bag_ledger.specs.declared.states.Part.{Part}
use Rattle.bag_ledger.specs.declared.states.Promise.{Promise}
use Rattle.bag_ledger.specs.declared.states.UnitPlace.{UnitPlace}
use Rattle.bag_ledger.specs.declared.states.UnitPlace.TheVariants.{Free, Travelling, Pinned, Spent}
use Rattle.bag_ledger.specs.declared.states.Status.{Status}
use Rattle.bag_ledger.specs.declared.states.Status.TheVariants as does
use Rattle.bag_ledger.specs.Bag.{Bag, rank_at, unit_of, part_of, promise_of, is_placed_at, is_travelling, charge, putting, keeping, offer}
use Rattle.bag_ledger.specs.Bag.{wish, open_call, has_declined, all_declined, is_due, has_due, has_fit_at, settled, info_of}

-- Words of the conditions.

-- r is the state of the rank
abbrev pub Is : Bag → Rank → RankState → Type 0
Is b rank r = rank_at b rank ≡ Some r

-- the rank is running, and this is the number of its next call
abbrev pub Begins : Bag → Rank → ℕ → RankState → Type 0
Begins b rank call r = Is b rank r × (r.status ≡ does.Running) × (r.next ≡ call)

-- the server is one of the run's
abbrev pub IsServer : Bag → Server → Type 0
IsServer b server = server.0 < b.servers

-- the server is the home of the rank
abbrev pub IsHome : Bag → Server → Rank → Type 0
IsHome b server rank = IsServer b server × (server.0 ≡ home_of b.servers rank)

-- this number of bytes fits at the server within its limit
abbrev pub Fits : Bag → Server → ℕ → Type 0
Fits b server n = charge b server + n ≤ b.limit

-- u is the unit of this id, and this its place
abbrev pub Stands : Bag → UnitId → Placed → UnitPlace → Type 0
Stands b id u place = (unit_of b id ≡ Some u) × (u.place ≡ place)

-- p is the common part of the batch, kept at the server and not freed
abbrev pub Keeps : Bag → Server → BatchId → Part → Type 0
Keeps b server batch p = IsServer b server × (part_of b batch ≡ Some p) × (p.server ≡ server) × IsFalse p.freed

-- NoMoreWork after a Done entry, Exhausted after the Exhausted entry
abbrev pub has_cause : Bag → End → Bool
has_cause b ends_by.NoMoreWork = b.done
has_cause b ends_by.Exhausted = b.exhausted

-- where each entry is legal, but for parts that are due; exhaustion is found where the test `found` passes
abbrev pub LegalWhere : (Bag → Bool) → Bag → Entry → Type 0
-- the rank runs, and the call has its next number
LegalWhere found b (Putting rank call kind prio target answer body) = (r : RankState) × Begins b rank call r
-- the rank of the id brings it; the server has not refused this call; what it is charged with is `used`, and the length goes over
-- the limit
LegalWhere found b (Refused server id used) =
    (r : RankState) × (n : ℕ) × Is b id.rank r × (offer r.status ≡ Some (id.number, n)) × IsServer b server
    × IsFalse (has_declined r server) × (used ≡ charge b server) × (b.limit < used + n)
-- the rank of the id puts this unit; the server has not refused this call; it fits
LegalWhere found b (Accepted server id) =
    (r : RankState) × (u : Unit) × Is b id.rank r × (r.status ≡ does.Putting u) × (u.id ≡ id) × IsServer b server
    × IsFalse (has_declined r server) × Fits b server (length u.body)
-- the rank brings something in this call; each server has refused it
LegalWhere found b (Rejected rank call) =
    (r : RankState) × (n : ℕ) × Is b rank r × (offer r.status ≡ Some (call, n)) × IsTrue (all_declined b r)
-- the rank runs, the call has its next number, and no batch is going on
LegalWhere found b (Keeping rank call common) = (r : RankState) × Begins b rank call r × (r.batch ≡ None)
-- the rank of the batch begins it; the server has not refused this call; the common part fits
LegalWhere found b (Kept server batch) =
    (r : RankState) × (common : List ℕ) × Is b batch.rank r × (r.status ≡ does.Keeping batch.number common) × IsServer b server
    × IsFalse (has_declined r server) × Fits b server (length common)
-- the rank runs, the call has its next number, and a batch is going on
LegalWhere found b (Closing rank call) = (r : RankState) × (common : CommonRef) × Begins b rank call r × (r.batch ≡ Some common)
-- the rank of the batch ends it, and the server keeps its part
LegalWhere found b (Closed server batch) =
    (r : RankState) × (call : ℕ) × (common : CommonRef) × (p : Part) × Is b batch.rank r × (r.status ≡ does.Closing call)
    × (r.batch ≡ Some common) × (common.batch ≡ batch) × Keeps b server batch p
-- the server keeps the part, which is due
LegalWhere found b (Freed server batch) = (p : Part) × Keeps b server batch p × IsTrue (is_due p)
-- the rank runs, and the call has its next number
LegalWhere found b (Asked rank call types) = (r : RankState) × Begins b rank call r
LegalWhere found b (Tried rank call types) = (r : RankState) × Begins b rank call r
-- the rank asks or tries in this call; the unit is free at the server and permitted
LegalWhere found b (Granted server rank call id) =
    (r : RankState) × (types : Option (List WorkType)) × (u : Placed) × Is b rank r × (wish r.status ≡ Some (call, types))
    × IsServer b server × Stands b id u (Free server) × IsTrue (permitted rank types u.unit.kind u.unit.target)
-- the rank tries in this call; no unit free at the server is permitted
LegalWhere found b (Looked server rank call) =
    (r : RankState) × (types : Option (List WorkType)) × Is b rank r × (r.status ≡ does.Trying call types) × IsServer b server
    × IsFalse (has_fit_at b server rank types)
-- the rank tries in this call; each server has looked
LegalWhere found b (NoCurrent rank call) =
    (r : RankState) × (types : Option (List WorkType)) × Is b rank r × (r.status ≡ does.Trying call types) × IsTrue (all_declined b r)
-- the rank runs, and the call has its next number; the unit is pinned to the rank
LegalWhere found b (Fetching rank call id) =
    (r : RankState) × (u : Placed) × (server : Server) × Begins b rank call r × Stands b id u (Pinned server rank)
-- the rank fetches the unit, and its own bytes have not come; it is pinned to the rank at the server
LegalWhere found b (Fetched server rank id) =
    (r : RankState) × (call : ℕ) × (u : Placed) × Is b rank r × (r.status ≡ does.Fetching call id false) × IsServer b server
    × Stands b id u (Pinned server rank)
-- the rank fetches a unit of the batch, and its own bytes have come; the server keeps the part
LegalWhere found b (CommonFetched server rank batch) =
    (r : RankState) × (call : ℕ) × (id : UnitId) × (u : Placed) × (common : CommonRef) × (p : Part) × Is b rank r
    × (r.status ≡ does.Fetching call id true) × (unit_of b id ≡ Some u) × (u.unit.common ≡ Some common) × (common.batch ≡ batch)
    × Keeps b server batch p
-- the unit has this length, is free or pinned elsewhere or spent, and has no promise; the length fits
LegalWhere found b (Promised server id n) =
    (u : Placed) × (unit_of b id ≡ Some u) × (length u.unit.body ≡ n) × IsServer b server × IsFalse (is_travelling u.place)
    × IsFalse (is_placed_at server u.place) × (promise_of b id ≡ None) × Fits b server n
-- the unit is free at the server, and promised at `to`
LegalWhere found b (Left server to id) =
    (u : Placed) × (p : Promise) × Stands b id u (Free server) × IsServer b server × IsServer b to × (promise_of b id ≡ Some p)
    × (p.server ≡ to)
-- the unit travels to the server
LegalWhere found b (Arrived server id) = (u : Placed) × Stands b id u (Travelling server) × IsServer b server
-- the unit is promised at the server, and does not travel
LegalWhere found b (Withdrawn server id) =
    (u : Placed) × (p : Promise) × (unit_of b id ≡ Some u) × IsFalse (is_travelling u.place) × IsServer b server
    × (promise_of b id ≡ Some p) × (p.server ≡ server)
-- the rank runs, and the call has its next number
LegalWhere found b (Counting rank call kind) = (r : RankState) × Begins b rank call r
-- the rank counts in this call; the server is its home, and says how many units are free there
LegalWhere found b (Counted server rank call info) =
    (r : RankState) × (kind : WorkType) × Is b rank r × (r.status ≡ does.Counting call kind) × IsHome b server rank
    × (info ≡ info_of b server kind)
-- the rank runs, and the call has its next number
LegalWhere found b (Done rank call) = (r : RankState) × Begins b rank call r
-- the test passes, and exhaustion was not found before
LegalWhere found b Exhausted = IsTrue (found b) × IsFalse b.exhausted
-- the rank brings or wants something in this call, and the end has its cause
LegalWhere found b (Over rank call end) =
    (r : RankState) × Is b rank r × (open_call r.status ≡ Some call) × IsTrue (has_cause b end)
-- the rank runs, the call has its next number, and no batch is going on
LegalWhere found b (Finished rank call) = (r : RankState) × Begins b rank call r × (r.batch ≡ None)

-- exhaustion is found where the bag is settled
abbrev pub Legal : Bag → Entry → Type 0
Legal = LegalWhere settled

-- Words of the effects.

-- the element at this place is changed
abbrev pub change_at : {X : Type 0} → (X → X) → ℕ → List X → List X
change_at f place [] = []
change_at f zero (x ∷ xs) = f x ∷ xs
change_at f (suc place) (x ∷ xs) = x ∷ change_at f place xs

-- the first element that passes the test is changed
abbrev pub change_first : {X : Type 0} → (X → X) → (X → Bool) → List X → List X
change_first f test [] = []
change_first f test (x ∷ xs) = if test x then f x ∷ xs else x ∷ change_first f test xs

-- the state of the rank is changed; so is the common part of the batch
abbrev pub with_rank : Rank → (RankState → RankState) → Bag → Bag
with_rank rank f b = record b { ranks = change_at f rank.0 b.ranks }

-- the bag with the part of a batch changed
abbrev pub with_part : BatchId → (Part → Part) → Bag → Bag
with_part batch f b = record b { parts = change_first f (λ p. same_batch p.batch batch) b.parts }

-- the unit is at another place
abbrev pub moved : UnitId → UnitPlace → Bag → Bag
moved id place b = record b { units = change_first (λ u. record u { place = place }) (λ u. same_unit u.unit.id id) b.units }

-- the promise of the unit is gone
abbrev pub unpromised : UnitId → Bag → Bag
unpromised id b = record b { promises = filter (λ p. not (same_unit p.id id)) b.promises }

-- a call begins, which takes its number
abbrev pub begun : Status → RankState → RankState
begun status r = record r { status = status; next = r.next + 1 }

-- the pending call has ended
abbrev pub ended : RankState → RankState
ended r = record r { status = does.Running; declined = [] }

-- one server more has declined the pending call
abbrev pub declined_by : Server → RankState → RankState
declined_by server r = record r { declined = r.declined ++ server ∷ [] }

-- one accepted unit more shares the common part
abbrev pub shared : Option CommonRef → Bag → Bag
shared None b = b
shared (Some common) b = with_part common.batch (λ p. record p { accepted = p.accepted + 1 }) b

-- the unit is free at the server, and shares its common part
abbrev pub taken : Server → Option Unit → Bag → Bag
taken server None b = b
taken server (Some u) b = shared u.common (record b { units = b.units ++ record { unit = u; place = Free server } ∷ [] })

-- the common part of a batch that begins
abbrev pub new_part : Server → BatchId → List ℕ → Part
new_part server batch common =
    record { batch = batch; server = server; common = common; accepted = 0; fetched = 0; closed = false; freed = false }

-- the common part is at the server, and the batch is going on
abbrev pub kept : Server → BatchId → Option (ℕ × List ℕ) → Bag → Bag
kept server batch None b = b
kept server batch (Some (call, common)) b =
    with_rank batch.rank (λ r. ended (record r { batch = Some (record { batch = batch; server = server; length = length common }) }))
    (record b { parts = b.parts ++ new_part server batch common ∷ [] })

-- the rank with the own bytes of its fetch
abbrev pub own_came : Status → Status
own_came (does.Fetching call id own) = does.Fetching call id true
own_came status = status

-- the own bytes of this unit came: the fetch has ended where it has no common part, and awaits the common bytes else
abbrev pub own_fetched : Option CommonRef → RankState → RankState
own_fetched None r = ended r
own_fetched (Some common) r = record r { status = own_came r.status }

-- the bag after each entry
abbrev pub after : Bag → Entry → Bag
after b (Putting rank call kind prio target answer body) =
    let unit : Option CommonRef → Unit =
    λ common. record {
      id = record { rank = rank; number = call };
      kind = kind;
      prio = prio;
      target = target;
      answer = answer;
      common = common;
      body = body;
    } in
    with_rank rank (λ r. begun (does.Putting (unit r.batch)) r) b
after b (Refused server id used) = with_rank id.rank (declined_by server) b
after b (Accepted server id) =
    with_rank id.rank ended (taken server (option_and_then (λ r. putting r.status) (rank_at b id.rank)) b)
after b (Rejected rank call) = with_rank rank ended b
after b (Keeping rank call common) = with_rank rank (begun (does.Keeping call common)) b
after b (Kept server batch) = kept server batch (option_and_then (λ r. keeping r.status) (rank_at b batch.rank)) b
after b (Closing rank call) = with_rank rank (begun (does.Closing call)) b
after b (Closed server batch) =
    with_rank batch.rank (λ r. ended (record r { batch = None })) (with_part batch (λ p. record p { closed = true }) b)
after b (Freed server batch) = with_part batch (λ p. record p { freed = true }) b
after b (Asked rank call types) = with_rank rank (begun (does.Asking call types)) b
after b (Tried rank call types) = with_rank rank (begun (does.Trying call types)) b
after b (Granted server rank call id) = with_rank rank ended (moved id (Pinned server rank) b)
after b (Looked server rank call) = with_rank rank (declined_by server) b
after b (NoCurrent rank call) = with_rank rank ended b
after b (Fetching rank call id) = with_rank rank (begun (does.Fetching call id false)) b
after b (Fetched server rank id) =
    with_rank rank (own_fetched (option_and_then (λ u. u.unit.common) (unit_of b id))) (moved id Spent b)
after b (CommonFetched server rank batch) =
    with_rank rank ended (with_part batch (λ p. record p { fetched = p.fetched + 1 }) b)
after b (Promised server id n) = record b { promises = b.promises ++ record { server = server; id = id; length = n } ∷ [] }
after b (Left server to id) = moved id (Travelling to) b
after b (Arrived server id) = unpromised id (moved id (Free server) b)
after b (Withdrawn server id) = unpromised id b
after b (Counting rank call kind) = with_rank rank (begun (does.Counting call kind)) b
after b (Counted server rank call info) = with_rank rank ended b
after b (Done rank call) = with_rank rank (begun does.Running) (record b { done = true })
after b Exhausted = record b { exhausted = true }
after b (Over rank call end) = with_rank rank (λ r. ended (record r { end = Some end })) b
after b (Finished rank call) = with_rank rank (begun does.Finished) b

-- the entry frees a part
abbrev pub is_freeing : Entry → Bool
is_freeing (Freed server batch) = true
is_freeing _ = false

-- where a part is due, its freeing alone is legal
abbrev pub in_turn : Bag → Entry → Bool
in_turn b e = is_freeing e || not (has_due b)

-- the entry is legal, and next is the bag after it
abbrev pub StepsWhere : (Bag → Bool) → Bag → Entry → Bag → Type 0
StepsWhere found b e next = IsTrue (in_turn b e) × LegalWhere found b e × (next ≡ after b e)

-- a legal step from one bag to the next
abbrev pub Steps : Bag → Entry → Bag → Type 0
Steps = StepsWhere settled
