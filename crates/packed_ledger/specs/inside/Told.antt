-- What an entry tells in numbers.
use Rattle.std.specs.Prelude.{ℕ, ◌+◌, List, Option, None, Some, ℤ, length}
use Rattle.adlb_unit.specs.declared.names.Rank.{Rank}
use Rattle.adlb_unit.specs.declared.names.Target.{Target}
use Rattle.adlb_unit.specs.declared.names.Target.TheVariants as targets
use Rattle.adlb_unit.specs.declared.names.WorkType.{WorkType}
use Rattle.adlb_unit.specs.declared.notes.End.{End}
use Rattle.adlb_unit.specs.declared.notes.End.TheVariants as ends
use Rattle.bag_ledger.specs.declared.entries.Entry.{Entry}
use Rattle.bag_ledger.specs.declared.entries.Entry.TheVariants as enters
use Rattle.packed_ledger.specs.declared.rows.Row.{Row}
use Rattle.packed_ledger.specs.inside.Numbers.{unsigned}

-- a row of few numbers
abbrev pub small : ℕ → ℕ → ℕ → ℕ → ℕ → ℕ → Row
small head first second third call number = record {
  head = head;
  first = first;
  second = second;
  third = third;
  fourth = 0;
  fifth = 0;
  call = call;
  number = number;
  amount = 0;
}

-- the head of a put, which says its kinds of target and answer rank
abbrev pub put_head : Target → Option Rank → ℕ
put_head targets.Any None = 0
put_head (targets.Only r) None = 1
put_head (targets.Soft r) None = 2
put_head targets.Any (Some a) = 3
put_head (targets.Only r) (Some a) = 4
put_head (targets.Soft r) (Some a) = 5

-- the rank that a target names, or 0
abbrev pub aim : Target → ℕ
aim targets.Any = 0
aim (targets.Only r) = r.0
aim (targets.Soft r) = r.0

-- a rank, or 0 without one
abbrev pub rank_or_0 : Option Rank → ℕ
rank_or_0 None = 0
rank_or_0 (Some r) = r.0

-- a priority, or 0 without one
abbrev pub top_or_0 : Option ℤ → ℕ
top_or_0 None = 0
top_or_0 (Some prio) = unsigned prio

-- the head of a count
abbrev pub top_head : Option ℤ → ℕ
top_head None = 33
top_head (Some prio) = 34

-- the head of an end
abbrev pub end_head : End → ℕ
end_head ends.NoMoreWork = 16
end_head ends.Exhausted = 17

-- the head of a request, which says whether types are listed
abbrev pub wanted_head : ℕ → Option (List WorkType) → ℕ
wanted_head head None = head
wanted_head head (Some kinds) = head + 1

-- how many types are listed
abbrev pub kinds_in : Option (List WorkType) → ℕ
kinds_in None = 0
kinds_in (Some kinds) = length kinds

-- the numbers of an entry
abbrev pub row_of : Entry → Row
row_of (enters.Putting rank call kind prio target answer body) = record {
  head = put_head target answer;
  first = rank.0;
  second = kind.0;
  third = unsigned prio;
  fourth = aim target;
  fifth = rank_or_0 answer;
  call = call;
  number = length body;
  amount = 0;
}
row_of (enters.Keeping rank call common) = small 6 rank.0 0 0 call (length common)
row_of (enters.Asked rank call types) = small (wanted_head 7 types) rank.0 0 0 call (kinds_in types)
row_of (enters.Tried rank call types) = small (wanted_head 9 types) rank.0 0 0 call (kinds_in types)
row_of (enters.Rejected rank call) = small 11 rank.0 0 0 call 0
row_of (enters.Closing rank call) = small 12 rank.0 0 0 call 0
row_of (enters.NoCurrent rank call) = small 13 rank.0 0 0 call 0
row_of (enters.Done rank call) = small 14 rank.0 0 0 call 0
row_of (enters.Finished rank call) = small 15 rank.0 0 0 call 0
row_of (enters.Over rank call end) = small (end_head end) rank.0 0 0 call 0
row_of (enters.Fetching rank call id) = small 18 rank.0 id.rank.0 0 call id.number
row_of (enters.Counting rank call kind) = small 19 rank.0 kind.0 0 call 0
row_of (enters.Refused server id used) = small 20 server.0 id.rank.0 0 used id.number
row_of (enters.Accepted server id) = small 21 server.0 id.rank.0 0 0 id.number
row_of (enters.Kept server batch) = small 22 server.0 batch.rank.0 0 0 batch.number
row_of (enters.Closed server batch) = small 23 server.0 batch.rank.0 0 0 batch.number
row_of (enters.Freed server batch) = small 24 server.0 batch.rank.0 0 0 batch.number
row_of (enters.Granted server rank call id) = small 25 server.0 rank.0 id.rank.0 call id.number
row_of (enters.Looked server rank call) = small 26 server.0 rank.0 0 call 0
row_of (enters.Fetched server rank id) = small 27 server.0 rank.0 id.rank.0 0 id.number
row_of (enters.CommonFetched server rank batch) = small 28 server.0 rank.0 batch.rank.0 0 batch.number
row_of (enters.Promised server id length) = small 29 server.0 id.rank.0 length 0 id.number
row_of (enters.Left server to id) = small 30 server.0 to.0 id.rank.0 0 id.number
row_of (enters.Arrived server id) = small 31 server.0 id.rank.0 0 0 id.number
row_of (enters.Withdrawn server id) = small 32 server.0 id.rank.0 0 0 id.number
row_of (enters.Counted server rank call info) = record {
  head = top_head info.top;
  first = server.0;
  second = rank.0;
  third = top_or_0 info.top;
  fourth = 0;
  fifth = 0;
  call = call;
  number = info.free;
  amount = info.at_top;
}
row_of enters.Exhausted = small 35 0 0 0 0 0
