-- What an entry leaves of the ranks of which it does not tell.
use Rattle.std.specs.Prelude.{◌≡◌, ◌==◌, Bool, false, Option, None, Some, List, ◌∷◌}
use Rattle.adlb_unit.specs.declared.messages.Message.{Message}
use Rattle.adlb_unit.specs.declared.names.Rank.{Rank}
use Rattle.bag_ledger.specs.declared.entries.Entry.{Entry}
use Rattle.bag_ledger.specs.declared.entries.Entry.TheVariants as enters
use Rattle.bag_ledger.specs.Bag.{Bag}
use Rattle.bag_ledger.specs.Runs.{calls_from}
use Rattle.bag_ledger.specs.Steps.{StepsWhere}
use Rattle.bag_law.specs.Sound.{IsSoundBag}
use Rattle.rank_client.specs.Agreement.{ClientAgrees}
use Rattle.rank_client.specs.State.{ClientModel}

-- the rank of whose call the entry tells, if it does
abbrev pub teller : Entry → Option Rank
teller (enters.Putting rank call kind prio target answer body) = Some rank
teller (enters.Refused server id used) = Some id.rank
teller (enters.Accepted server id) = Some id.rank
teller (enters.Rejected rank call) = Some rank
teller (enters.Keeping rank call common) = Some rank
teller (enters.Kept server batch) = Some batch.rank
teller (enters.Closing rank call) = Some rank
teller (enters.Closed server batch) = Some batch.rank
teller (enters.Freed server batch) = None
teller (enters.Asked rank call types) = Some rank
teller (enters.Tried rank call types) = Some rank
teller (enters.Granted server rank call id) = Some rank
teller (enters.Looked server rank call) = Some rank
teller (enters.NoCurrent rank call) = Some rank
teller (enters.Fetching rank call id) = Some rank
teller (enters.Fetched server rank id) = Some rank
teller (enters.CommonFetched server rank batch) = Some rank
teller (enters.Promised server id length) = None
teller (enters.Left server to id) = None
teller (enters.Arrived server id) = None
teller (enters.Withdrawn server id) = None
teller (enters.Counting rank call kind) = Some rank
teller (enters.Counted server rank call info) = Some rank
teller (enters.Done rank call) = Some rank
teller enters.Exhausted = None
teller (enters.Over rank call end) = Some rank
teller (enters.Finished rank call) = Some rank

-- the entry is not about this rank
abbrev pub tells_of : Rank → Option Rank → Bool
tells_of rank None = false
tells_of rank (Some other) = other.0 == rank.0

-- the law: a client that stands for its rank of a sound bag stands for it after a step that is not about this rank
abbrev pub ClientsStay : Type 0
ClientsStay = (found : Bag → Bool) (b next : Bag) (e : Entry) (s : ClientModel) (coming : Option Message) → IsSoundBag b
    → StepsWhere found b e next
    → tells_of s.me (teller e) ≡ false → ClientAgrees s coming b → ClientAgrees s coming next

-- the law: such a step adds nothing to what the ledger says of the rank's calls
abbrev pub CallsStay : Type 0
CallsStay = (found : Bag → Bool) (b next : Bag) (e : Entry) (es : List Entry) (rank : Rank) → StepsWhere found b e next
    → tells_of rank (teller e) ≡ false
    → calls_from b (e ∷ es) rank ≡ calls_from next es rank
