-- One step of the bag as a function, which computes: `legal` is `Legal` as a test, row for row.
use Rattle.std.specs.Prelude.{ℕ, ◌+◌, ◌==◌, nat_le, nat_lt, ℤ, Bool, true, false, ◌&&◌, not, List, length, Option, Some, None, is_none}
use Rattle.std.specs.Prelude.{if◌then◌else◌}
use Rattle.std.specs.Ordering.{int_eq}
use Rattle.adlb_unit.specs.declared.names.Rank.{Rank}
use Rattle.adlb_unit.specs.declared.names.Server.{Server}
use Rattle.adlb_unit.specs.declared.names.WorkType.{WorkType}
use Rattle.adlb_unit.specs.declared.names.UnitId.{UnitId}
use Rattle.adlb_unit.specs.declared.names.BatchId.{BatchId}
use Rattle.adlb_unit.specs.declared.names.CommonRef.{CommonRef}
use Rattle.adlb_unit.specs.declared.notes.Info.{Info}
use Rattle.adlb_unit.specs.Permit.{permitted}
use Rattle.adlb_unit.specs.Targets.{home_of}
use Rattle.adlb_unit.specs.Ids.{same_batch, same_unit}
use Rattle.bag_ledger.specs.declared.entries.Entry.{Entry}
use Rattle.bag_ledger.specs.declared.entries.Entry.TheVariants.{Putting, Refused, Accepted, Rejected, Keeping, Kept, Closing, Closed, Freed}
use Rattle.bag_ledger.specs.declared.entries.Entry.TheVariants.{Asked, Tried, Granted, Looked, NoCurrent, Fetching, Fetched, CommonFetched}
use Rattle.bag_ledger.specs.declared.entries.Entry.TheVariants.{Promised, Left, Arrived, Withdrawn, Counting, Counted, Done, Exhausted}
use Rattle.bag_ledger.specs.declared.entries.Entry.TheVariants.{Over, Finished}
use Rattle.bag_ledger.specs.declared.states.RankState.{RankState}
use Rattle.bag_ledger.specs.declared.states.Part.{Part}
use Rattle.bag_ledger.specs.declared.states.UnitPlace.{UnitPlace}
use Rattle.bag_ledger.specs.declared.states.UnitPlace.TheVariants.{Pinned, Travelling}
use Rattle.bag_ledger.specs.declared.states.Status.{Status}
use Rattle.bag_ledger.specs.declared.states.Status.TheVariants as does
use Rattle.bag_ledger.specs.Bag.{Bag, rank_at, unit_of, part_of, promise_of, is_free_at, is_placed_at, is_travelling, charge, putting}
use Rattle.bag_ledger.specs.Bag.{keeping, offer, wish, open_call, has_declined, all_declined, is_due, has_fit_at, settled, info_of}
use Rattle.bag_ledger.specs.Steps.{has_cause, in_turn, after}

-- the value is there and passes the test
abbrev pub has : {X : Type 0} → Option X → (X → Bool) → Bool
has None test = false
has (Some x) test = test x

-- what the rank does
abbrev pub is_running : Status → Bool
is_running does.Running = true
is_running _ = false

-- the rank ends its batch
abbrev pub is_closing : Status → Bool
is_closing (does.Closing call) = true
is_closing _ = false

-- of a try, and of a count: the number of the call, and the types or the type
abbrev pub trying : Status → Option (ℕ × Option (List WorkType))
trying (does.Trying call types) = Some (call, types)
trying _ = None

-- the call and the type of a rank that counts
abbrev pub counting : Status → Option (ℕ × WorkType)
counting (does.Counting call kind) = Some (call, kind)
counting _ = None

-- the unit that the rank fetches, and whether its own bytes came
abbrev pub fetching : Status → Option (UnitId × Bool)
fetching (does.Fetching call id own) = Some (id, own)
fetching _ = None

-- pinned to the rank; at the server
abbrev pub is_pinned_to : Rank → UnitPlace → Bool
is_pinned_to rank (Pinned server to) = to.0 == rank.0
is_pinned_to rank _ = false

-- the place is pinned at the server to the rank
abbrev pub is_pinned : Server → Rank → UnitPlace → Bool
is_pinned server rank (Pinned at to) = (at.0 == server.0) && (to.0 == rank.0)
is_pinned server rank _ = false

-- on the way to the server
abbrev pub is_travelling_to : Server → UnitPlace → Bool
is_travelling_to server (Travelling to) = to.0 == server.0
is_travelling_to server _ = false

-- the infos are the same
abbrev pub same_top : Option ℤ → Option ℤ → Bool
same_top None None = true
same_top (Some a) (Some b) = int_eq a b
same_top _ _ = false

-- two counts of free units are equal
abbrev pub same_info : Info → Info → Bool
same_info a b = (a.free == b.free) && same_top a.top b.top && (a.at_top == b.at_top)

-- `Begins`, `IsServer`, `Fits` and `Keeps` as tests; the first and the last with a test more
abbrev pub begins : Bag → Rank → ℕ → (RankState → Bool) → Bool
begins b rank call test = has (rank_at b rank) (λ r. is_running r.status && (r.next == call) && test r)

-- the server is in the run
abbrev pub is_server : Bag → Server → Bool
is_server b server = nat_lt server.0 b.servers

-- this number of bytes more is within the limit of the server
abbrev pub fits : Bag → Server → ℕ → Bool
fits b server n = nat_le (charge b server + n) b.limit

-- the server keeps the part of the batch, which passes the test
abbrev pub keeps : Bag → Server → BatchId → (Part → Bool) → Bool
keeps b server batch test = is_server b server && has (part_of b batch) (λ p. (p.server.0 == server.0) && not p.freed && test p)

-- the common part is that of the batch
abbrev pub is_of : BatchId → Option CommonRef → Bool
is_of batch common = has common (λ c. same_batch c.batch batch)

-- no test more
abbrev pub anything : RankState → Bool
anything r = true

-- the entry is legal, but for parts that are due
abbrev pub legal : Bag → Entry → Bool
legal b (Putting rank call kind prio target answer body) = begins b rank call anything
legal b (Refused server id used) =
    has (rank_at b id.rank) (λ r. has (offer r.status) (λ o. (o.0 == id.number) && is_server b server
    && not (has_declined r server) && (used == charge b server) && nat_lt b.limit (used + o.1)))
legal b (Accepted server id) =
    has (rank_at b id.rank) (λ r. has (putting r.status) (λ u. same_unit u.id id && is_server b server
    && not (has_declined r server) && fits b server (length u.body)))
legal b (Rejected rank call) = has (rank_at b rank) (λ r. has (offer r.status) (λ o. (o.0 == call) && all_declined b r))
legal b (Keeping rank call common) = begins b rank call (λ r. is_none r.batch)
legal b (Kept server batch) =
    has (rank_at b batch.rank) (λ r. has (keeping r.status) (λ k. (k.0 == batch.number) && is_server b server
    && not (has_declined r server) && fits b server (length k.1)))
legal b (Closing rank call) = begins b rank call (λ r. not (is_none r.batch))
legal b (Closed server batch) =
    has (rank_at b batch.rank) (λ r. is_closing r.status && is_of batch r.batch) && keeps b server batch (λ p. true)
legal b (Freed server batch) = keeps b server batch is_due
legal b (Asked rank call types) = begins b rank call anything
legal b (Tried rank call types) = begins b rank call anything
legal b (Granted server rank call id) =
    has (rank_at b rank) (λ r. has (wish r.status) (λ w. (w.0 == call) && is_server b server
    && has (unit_of b id) (λ u. is_free_at server u.place && permitted rank w.1 u.unit.kind u.unit.target)))
legal b (Looked server rank call) =
    has (rank_at b rank) (λ r. has (trying r.status) (λ w. (w.0 == call) && is_server b server
    && not (has_fit_at b server rank w.1)))
legal b (NoCurrent rank call) =
    has (rank_at b rank) (λ r. has (trying r.status) (λ w. (w.0 == call) && all_declined b r))
legal b (Fetching rank call id) = begins b rank call anything && has (unit_of b id) (λ u. is_pinned_to rank u.place)
legal b (Fetched server rank id) =
    has (rank_at b rank) (λ r. has (fetching r.status) (λ f. same_unit f.0 id && not f.1)) && is_server b server
    && has (unit_of b id) (λ u. is_pinned server rank u.place)
legal b (CommonFetched server rank batch) =
    has (rank_at b rank) (λ r. has (fetching r.status) (λ f. f.1 && has (unit_of b f.0) (λ u. is_of batch u.unit.common)))
    && keeps b server batch (λ p. true)
legal b (Promised server id n) =
    has (unit_of b id) (λ u. (length u.unit.body == n) && is_server b server && not (is_travelling u.place)
    && not (is_placed_at server u.place) && is_none (promise_of b id) && fits b server n)
legal b (Left server to id) =
    has (unit_of b id) (λ u. is_free_at server u.place) && is_server b server && is_server b to
    && has (promise_of b id) (λ p. p.server.0 == to.0)
legal b (Arrived server id) = has (unit_of b id) (λ u. is_travelling_to server u.place) && is_server b server
legal b (Withdrawn server id) =
    has (unit_of b id) (λ u. not (is_travelling u.place)) && is_server b server
    && has (promise_of b id) (λ p. p.server.0 == server.0)
legal b (Counting rank call kind) = begins b rank call anything
legal b (Counted server rank call info) =
    has (rank_at b rank) (λ r. has (counting r.status) (λ c. (c.0 == call) && is_server b server
    && (server.0 == home_of b.servers rank) && same_info info (info_of b server c.1)))
legal b (Done rank call) = begins b rank call anything
legal b Exhausted = settled b && not b.exhausted
legal b (Over rank call end) = has (rank_at b rank) (λ r. has (open_call r.status) (λ c. c == call)) && has_cause b end
legal b (Finished rank call) = begins b rank call (λ r. is_none r.batch)

-- the bag after the entry, where it is a step
abbrev pub step : Bag → Entry → Option Bag
step b e = if in_turn b e && legal b e then Some (after b e) else None
