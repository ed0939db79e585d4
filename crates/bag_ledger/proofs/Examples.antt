-- Small ledgers, written out.
use Rattle.std.proofs.Common.{ℕ, pos, negsuc, List, ◌∷◌, [], Some, None, replicate}
use Rattle.adlb_unit.specs.declared.names.Rank.{Rank}
use Rattle.adlb_unit.specs.declared.names.Server.{Server}
use Rattle.adlb_unit.specs.declared.names.WorkType.{WorkType}
use Rattle.adlb_unit.specs.declared.names.UnitId.{UnitId}
use Rattle.adlb_unit.specs.declared.names.BatchId.{BatchId}
use Rattle.adlb_unit.specs.declared.names.Target.TheVariants.{Any}
use Rattle.adlb_unit.specs.declared.notes.Info.{Info}
use Rattle.adlb_unit.specs.declared.notes.End.TheVariants as ends_by
use Rattle.bag_ledger.specs.declared.entries.Entry.{Entry}
use Rattle.bag_ledger.specs.declared.entries.Entry.TheVariants.{Putting, Refused, Accepted, Rejected, Keeping, Kept, Closing, Closed, Freed}
use Rattle.bag_ledger.specs.declared.entries.Entry.TheVariants.{Asked, Tried, Granted, Looked, NoCurrent, Fetching, Fetched, CommonFetched}
use Rattle.bag_ledger.specs.declared.entries.Entry.TheVariants.{Promised, Left, Arrived, Withdrawn, Counting, Counted, Done, Exhausted}
use Rattle.bag_ledger.specs.declared.entries.Entry.TheVariants.{Over, Finished}

abbrev pub rank : ℕ → Rank
rank n = record { 0 = n }

abbrev pub server : ℕ → Server
server n = record { 0 = n }

abbrev pub kind : ℕ → WorkType
kind n = record { 0 = n }

abbrev pub unit : ℕ → ℕ → UnitId
unit r call = record { rank = rank r; number = call }

abbrev pub batch : ℕ → ℕ → BatchId
batch r call = record { rank = rank r; number = call }

-- a body of this length
abbrev pub bytes : ℕ → List ℕ
bytes n = replicate n 0

-- a put of type 1 and priority 0 for any rank
abbrev pub put : ℕ → ℕ → List ℕ → Entry
put r call body = Putting (rank r) call (kind 1) (pos 0) Any None body

-- two free units of priority 0
abbrev pub two_free : Info
two_free = record { free = 2; top = Some (pos 0); at_top = 2 }

-- one rank fills three servers, and the next unit is rejected; limit 64
abbrev pub full_servers : List Entry
full_servers =
    put 0 0 (bytes 56) ∷ Accepted (server 0) (unit 0 0) ∷ put 0 1 (bytes 56) ∷ Accepted (server 1) (unit 0 1)
    ∷ put 0 2 (bytes 56) ∷ Accepted (server 2) (unit 0 2) ∷ put 0 3 (bytes 9) ∷ Refused (server 0) (unit 0 3) 56
    ∷ Refused (server 1) (unit 0 3) 56 ∷ Refused (server 2) (unit 0 3) 56 ∷ Rejected (rank 0) 3 ∷ []

-- rank 1 gets the unit that rank 0 puts at another server, and rank 0 tries in vain
abbrev pub got_elsewhere : List Entry
got_elsewhere =
    Asked (rank 1) 0 None ∷ put 0 0 (104 ∷ 101 ∷ 108 ∷ 108 ∷ 111 ∷ []) ∷ Accepted (server 0) (unit 0 0)
    ∷ Granted (server 0) (rank 1) 0 (unit 0 0) ∷ Tried (rank 0) 1 None ∷ Looked (server 0) (rank 0) 1
    ∷ Looked (server 1) (rank 0) 1 ∷ NoCurrent (rank 0) 1 ∷ []

-- a unit is pushed while both ranks ask for another type, and then nothing is left to do; limit 64
abbrev pub pushed : List Entry
pushed =
    Asked (rank 0) 0 (Some (kind 2 ∷ [])) ∷ put 1 0 (bytes 60) ∷ Accepted (server 1) (unit 1 0) ∷ Asked (rank 1) 1 (Some (kind 2 ∷ []))
    ∷ Promised (server 0) (unit 1 0) 60 ∷ Left (server 1) (server 0) (unit 1 0) ∷ Arrived (server 0) (unit 1 0) ∷ Exhausted
    ∷ Over (rank 0) 0 ends_by.Exhausted ∷ Over (rank 1) 1 ends_by.Exhausted ∷ []

-- three servers have nothing; after the problem is done a try and a put are told so
abbrev pub tries : List Entry
tries =
    Tried (rank 0) 0 None ∷ Looked (server 0) (rank 0) 0 ∷ Looked (server 1) (rank 0) 0 ∷ Looked (server 2) (rank 0) 0
    ∷ NoCurrent (rank 0) 0 ∷ Done (rank 0) 1 ∷ Tried (rank 0) 2 None ∷ Over (rank 0) 2 ends_by.NoMoreWork ∷ put 0 3 []
    ∷ Over (rank 0) 3 ends_by.NoMoreWork ∷ []

-- a unit is granted to rank 0, and rank 1 asks
abbrev pub granted_once : List Entry
granted_once =
    put 0 0 (97 ∷ 98 ∷ []) ∷ Accepted (server 0) (unit 0 0) ∷ Asked (rank 0) 1 None ∷ Granted (server 0) (rank 0) 1 (unit 0 0)
    ∷ Asked (rank 1) 0 None ∷ []

-- a batch of two units, counted and fetched
abbrev pub batch_of_two : List Entry
batch_of_two =
    Keeping (rank 0) 0 (120 ∷ 121 ∷ []) ∷ Kept (server 0) (batch 0 0) ∷ put 0 1 (97 ∷ []) ∷ Accepted (server 0) (unit 0 1)
    ∷ put 0 2 (98 ∷ []) ∷ Accepted (server 0) (unit 0 2) ∷ Counting (rank 0) 3 (kind 1) ∷ Counted (server 0) (rank 0) 3 two_free
    ∷ Closing (rank 0) 4 ∷ Closed (server 0) (batch 0 0) ∷ Asked (rank 0) 5 None ∷ Granted (server 0) (rank 0) 5 (unit 0 1)
    ∷ Fetching (rank 0) 6 (unit 0 1) ∷ Fetched (server 0) (rank 0) (unit 0 1) ∷ CommonFetched (server 0) (rank 0) (batch 0 0)
    ∷ Asked (rank 0) 7 None ∷ Granted (server 0) (rank 0) 7 (unit 0 2) ∷ Fetching (rank 0) 8 (unit 0 2)
    ∷ Fetched (server 0) (rank 0) (unit 0 2) ∷ CommonFetched (server 0) (rank 0) (batch 0 0) ∷ Freed (server 0) (batch 0 0) ∷ []

-- rank 0 calls the problem done, and all are told so
abbrev pub done_called : List Entry
done_called =
    Asked (rank 1) 0 None ∷ Done (rank 0) 0 ∷ Over (rank 1) 0 ends_by.NoMoreWork ∷ put 0 1 []
    ∷ Over (rank 0) 1 ends_by.NoMoreWork ∷ Asked (rank 0) 2 None ∷ Over (rank 0) 2 ends_by.NoMoreWork ∷ []

-- a unit is granted where it is while another server has promised room for it; limit 64
abbrev pub cancelled_push : List Entry
cancelled_push =
    put 0 0 (bytes 60) ∷ Accepted (server 0) (unit 0 0) ∷ Promised (server 1) (unit 0 0) 60 ∷ Asked (rank 0) 1 None
    ∷ Granted (server 0) (rank 0) 1 (unit 0 0) ∷ Withdrawn (server 1) (unit 0 0) ∷ put 1 0 (bytes 65)
    ∷ Refused (server 1) (unit 1 0) 0 ∷ Refused (server 0) (unit 1 0) 60 ∷ Rejected (rank 1) 0 ∷ []

-- each server refuses the common part of a batch, which is rejected; limit 64
abbrev pub refused_batch : List Entry
refused_batch =
    Keeping (rank 0) 0 (bytes 65) ∷ Refused (server 0) (unit 0 0) 0 ∷ Refused (server 1) (unit 0 0) 0 ∷ Rejected (rank 0) 0 ∷ []

-- a batch with no unit is freed as soon as it is closed
abbrev pub empty_batch : List Entry
empty_batch =
    Keeping (rank 0) 0 (120 ∷ 121 ∷ []) ∷ Kept (server 0) (batch 0 0) ∷ Closing (rank 0) 1 ∷ Closed (server 0) (batch 0 0)
    ∷ Freed (server 0) (batch 0 0) ∷ Asked (rank 0) 2 None ∷ []

-- a unit has no room at one server, and has room at the next; limit 64
abbrev pub full_at_first : List Entry
full_at_first =
    put 0 0 (bytes 56) ∷ Accepted (server 0) (unit 0 0) ∷ put 0 1 (bytes 9) ∷ Refused (server 0) (unit 0 1) 56
    ∷ Accepted (server 1) (unit 0 1) ∷ []

-- three free units of type 1, two of them of priority 7
abbrev pub two_of_three : Info
two_of_three = record { free = 3; top = Some (pos 7); at_top = 2 }

-- units of two types and several priorities are counted
abbrev pub several_priorities : List Entry
several_priorities =
    Putting (rank 0) 0 (kind 1) (pos 7) Any None [] ∷ Accepted (server 0) (unit 0 0)
    ∷ Putting (rank 0) 1 (kind 1) (negsuc 1) Any None [] ∷ Accepted (server 0) (unit 0 1)
    ∷ Putting (rank 0) 2 (kind 2) (pos 9) Any None [] ∷ Accepted (server 0) (unit 0 2)
    ∷ Putting (rank 0) 3 (kind 1) (pos 7) Any None [] ∷ Accepted (server 0) (unit 0 3)
    ∷ Counting (rank 0) 4 (kind 1) ∷ Counted (server 0) (rank 0) 4 two_of_three ∷ []

-- a rank works the unit that it put, and leaves
abbrev pub worked_alone : List Entry
worked_alone =
    put 0 0 (97 ∷ 98 ∷ []) ∷ Accepted (server 0) (unit 0 0) ∷ Asked (rank 0) 1 None ∷ Granted (server 0) (rank 0) 1 (unit 0 0)
    ∷ Fetching (rank 0) 2 (unit 0 0) ∷ Fetched (server 0) (rank 0) (unit 0 0) ∷ Finished (rank 0) 3 ∷ []
