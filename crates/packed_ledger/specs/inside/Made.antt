-- The entry that a row tells.
use Rattle.std.specs.Prelude.{ℕ, ◌%◌, List, Option, None, Some, ℤ, nat_lt, ◌==◌, if◌then◌else◌}
use Rattle.adlb_unit.specs.declared.names.Rank.{Rank}
use Rattle.adlb_unit.specs.declared.names.Server.{Server}
use Rattle.adlb_unit.specs.declared.names.UnitId.{UnitId}
use Rattle.adlb_unit.specs.declared.names.BatchId.{BatchId}
use Rattle.adlb_unit.specs.declared.names.Target.{Target}
use Rattle.adlb_unit.specs.declared.names.Target.TheVariants as targets
use Rattle.adlb_unit.specs.declared.names.WorkType.{WorkType}
use Rattle.adlb_unit.specs.declared.notes.End.TheVariants as ends
use Rattle.bag_ledger.specs.declared.entries.Entry.{Entry}
use Rattle.bag_ledger.specs.declared.entries.Entry.TheVariants as enters
use Rattle.packed_ledger.specs.declared.rows.Row.{Row}
use Rattle.packed_ledger.specs.inside.Numbers.{signed}

-- the rank of a number
abbrev pub rank_at : ℕ → Rank
rank_at n = record { 0 = n }

-- the server of a number
abbrev pub server_at : ℕ → Server
server_at n = record { 0 = n }

-- the work type of a number
abbrev pub kind_at : ℕ → WorkType
kind_at n = record { 0 = n }

-- the id of a unit by its numbers
abbrev pub unit_at : ℕ → ℕ → UnitId
unit_at rank number = record { rank = rank_at rank; number = number }

-- the id of a batch by its numbers
abbrev pub batch_at : ℕ → ℕ → BatchId
batch_at rank number = record { rank = rank_at rank; number = number }

-- the target that a head and a number say
abbrev pub target_at : ℕ → ℕ → Target
target_at head rank = if head % 3 == 0 then targets.Any else
    (if head % 3 == 1 then targets.Only (rank_at rank) else targets.Soft (rank_at rank))

-- the answer rank that a head and a number say
abbrev pub answer_at : ℕ → ℕ → Option Rank
answer_at head rank = if nat_lt head 3 then None else Some (rank_at rank)

-- with bytes, and with types
abbrev pub put_at : Row → List ℕ → Entry
put_at r body =
    enters.Putting (rank_at r.first) r.call (kind_at r.second) (signed r.third) (target_at r.head r.fourth) (answer_at r.head r.fifth) body

-- an entry with bytes
abbrev pub with_bytes : Row → List ℕ → Entry
with_bytes r body = if nat_lt r.head 6 then put_at r body else enters.Keeping (rank_at r.first) r.call body

-- an entry with types
abbrev pub with_types : Row → Option (List WorkType) → Entry
with_types r types = if r.head == 8 then enters.Asked (rank_at r.first) r.call types else enters.Tried (rank_at r.first) r.call types

-- without
abbrev pub plain_at : Row → Entry
plain_at r =
    if r.head == 7 then enters.Asked (rank_at r.first) r.call None else (
    if r.head == 9 then enters.Tried (rank_at r.first) r.call None else (
    if r.head == 11 then enters.Rejected (rank_at r.first) r.call else (
    if r.head == 12 then enters.Closing (rank_at r.first) r.call else (
    if r.head == 13 then enters.NoCurrent (rank_at r.first) r.call else (
    if r.head == 14 then enters.Done (rank_at r.first) r.call else enters.Finished (rank_at r.first) r.call)))))

-- an entry of a rank's call
abbrev pub call_at : Row → Entry
call_at r =
    if r.head == 16 then enters.Over (rank_at r.first) r.call ends.NoMoreWork else (
    if r.head == 17 then enters.Over (rank_at r.first) r.call ends.Exhausted else (
    if r.head == 18 then enters.Fetching (rank_at r.first) r.call (unit_at r.second r.number) else
    enters.Counting (rank_at r.first) r.call (kind_at r.second)))

-- an entry of a server that takes or keeps something
abbrev pub taken_at : Row → Entry
taken_at r =
    if r.head == 20 then enters.Refused (server_at r.first) (unit_at r.second r.number) r.call else (
    if r.head == 21 then enters.Accepted (server_at r.first) (unit_at r.second r.number) else (
    if r.head == 22 then enters.Kept (server_at r.first) (batch_at r.second r.number) else (
    if r.head == 23 then enters.Closed (server_at r.first) (batch_at r.second r.number) else
    enters.Freed (server_at r.first) (batch_at r.second r.number))))

-- an entry of a server that gives something
abbrev pub given_at : Row → Entry
given_at r =
    if r.head == 25 then enters.Granted (server_at r.first) (rank_at r.second) r.call (unit_at r.third r.number) else (
    if r.head == 26 then enters.Looked (server_at r.first) (rank_at r.second) r.call else (
    if r.head == 27 then enters.Fetched (server_at r.first) (rank_at r.second) (unit_at r.third r.number) else
    enters.CommonFetched (server_at r.first) (rank_at r.second) (batch_at r.third r.number)))

-- an entry of a count
abbrev pub counted_at : Row → Option ℤ → Entry
counted_at r top =
    enters.Counted (server_at r.first) (rank_at r.second) r.call (record { free = r.number; top = top; at_top = r.amount })

-- an entry of a push
abbrev pub moved_at : Row → Entry
moved_at r =
    if r.head == 29 then enters.Promised (server_at r.first) (unit_at r.second r.number) r.third else (
    if r.head == 30 then enters.Left (server_at r.first) (server_at r.second) (unit_at r.third r.number) else (
    if r.head == 31 then enters.Arrived (server_at r.first) (unit_at r.second r.number) else (
    if r.head == 32 then enters.Withdrawn (server_at r.first) (unit_at r.second r.number) else (
    if r.head == 33 then counted_at r None else (
    if r.head == 34 then counted_at r (Some (signed r.third)) else enters.Exhausted)))))

-- an entry without bytes and types
unfoldable pub light_at : Row → Entry
light_at r =
    if nat_lt r.head 16 then plain_at r else (
    if nat_lt r.head 20 then call_at r else (
    if nat_lt r.head 25 then taken_at r else (
    if nat_lt r.head 29 then given_at r else moved_at r)))
