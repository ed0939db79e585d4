-- The rules of the bag as a table: which rules an entry is under, in order, and when a bag meets each.
use Rattle.std.specs.Prelude.{ℕ, ◌+◌, ◌==◌, Bool, true, ◌&&◌, not, List, [], ◌∷◌, length, find, Option, is_none, nat_lt}
use Rattle.adlb_unit.specs.Ids.{same_unit}
use Rattle.adlb_unit.specs.Permit.{permitted}
use Rattle.adlb_unit.specs.Targets.{home_of}
use Rattle.adlb_unit.specs.declared.names.Rank.{Rank}
use Rattle.adlb_unit.specs.declared.names.UnitId.{UnitId}
use Rattle.bag_ledger.specs.declared.entries.Entry.{Entry}
use Rattle.bag_ledger.specs.declared.entries.Entry.TheVariants as of
use Rattle.bag_ledger.specs.declared.states.RankState.{RankState}
use Rattle.bag_ledger.specs.declared.states.Placed.{Placed}
use Rattle.bag_ledger.specs.Bag.{Bag, rank_at, unit_of, part_of, promise_of, putting, keeping, offer, wish, open_call, has_declined}
use Rattle.bag_ledger.specs.Bag.{all_declined, charge, has_due, has_fit_at, is_due, is_free_at, is_placed_at, is_travelling, info_of}
use Rattle.bag_ledger.specs.Bag.{settled}
use Rattle.bag_ledger.specs.Step.{has, fits, is_closing, is_of, is_pinned, is_pinned_to, is_running, is_server, is_travelling_to, trying}
use Rattle.bag_ledger.specs.Step.{counting, fetching, same_info}
use Rattle.bag_ledger.specs.Steps.{has_cause}
use Rattle.ledger_rules.specs.declared.rules.Rule.{Rule}
use Rattle.ledger_rules.specs.declared.rules.Rule.TheVariants as rule

-- under which every entry is but the freeing of a common part
abbrev pub begun : List Rule → List Rule
begun rules = rule.InTurn ∷ rules

-- a rank begins a call
abbrev pub beginning : Rank → ℕ → List Rule → List Rule
beginning rank call rules = rule.InTurn ∷ rule.InRun rank ∷ rule.Runs rank ∷ rule.Next rank call ∷ rules

-- the rules of an entry, in order
abbrev pub rules_of : Entry → List Rule
rules_of (of.Putting rank call kind prio target answer body) = beginning rank call []
rules_of (of.Refused server id used) =
    begun (rule.InRun id.rank ∷ rule.Brings id.rank id.number ∷ rule.IsServer server ∷ rule.Undeclined id.rank server
    ∷ rule.Charged server used ∷ rule.TooMuch id.rank used ∷ [])
rules_of (of.Accepted server id) =
    begun (rule.InRun id.rank ∷ rule.Puts id ∷ rule.IsServer server ∷ rule.Undeclined id.rank server ∷ rule.TakesUnit server id ∷ [])
rules_of (of.Rejected rank call) = begun (rule.InRun rank ∷ rule.Brings rank call ∷ rule.AllDeclined rank ∷ [])
rules_of (of.Keeping rank call common) = beginning rank call (rule.Outside rank ∷ [])
rules_of (of.Kept server batch) =
    begun (rule.InRun batch.rank ∷ rule.Begins batch ∷ rule.IsServer server ∷ rule.Undeclined batch.rank server
    ∷ rule.TakesCommon server batch ∷ [])
rules_of (of.Closing rank call) = beginning rank call (rule.Within rank ∷ [])
rules_of (of.Closed server batch) = begun (rule.InRun batch.rank ∷ rule.Ends batch ∷ rule.IsServer server ∷ rule.Keeps server batch ∷ [])
rules_of (of.Freed server batch) = rule.IsServer server ∷ rule.Keeps server batch ∷ rule.Due batch ∷ []
rules_of (of.Asked rank call types) = beginning rank call []
rules_of (of.Tried rank call types) = beginning rank call []
rules_of (of.Granted server rank call id) =
    begun (rule.InRun rank ∷ rule.Wants rank call ∷ rule.IsServer server ∷ rule.FreeAt id server ∷ rule.Permits rank id ∷ [])
rules_of (of.Looked server rank call) =
    begun (rule.InRun rank ∷ rule.Tries rank call ∷ rule.IsServer server ∷ rule.NoneFits server rank ∷ [])
rules_of (of.NoCurrent rank call) = begun (rule.InRun rank ∷ rule.Tries rank call ∷ rule.AllDeclined rank ∷ [])
rules_of (of.Fetching rank call id) = beginning rank call (rule.PinnedTo id rank ∷ [])
rules_of (of.Fetched server rank id) =
    begun (rule.InRun rank ∷ rule.AwaitsOwn rank id ∷ rule.IsServer server ∷ rule.PinnedAt id server rank ∷ [])
rules_of (of.CommonFetched server rank batch) =
    begun (rule.InRun rank ∷ rule.AwaitsCommon rank batch ∷ rule.IsServer server ∷ rule.Keeps server batch ∷ [])
rules_of (of.Promised server id n) =
    begun (rule.HasLength id n ∷ rule.IsServer server ∷ rule.Stays id ∷ rule.Elsewhere id server ∷ rule.Unpromised id
    ∷ rule.Fits server n ∷ [])
rules_of (of.Left server to id) = begun (rule.FreeAt id server ∷ rule.IsServer server ∷ rule.IsServer to ∷ rule.PromisedAt id to ∷ [])
rules_of (of.Arrived server id) = begun (rule.TravelsTo id server ∷ rule.IsServer server ∷ [])
rules_of (of.Withdrawn server id) = begun (rule.Stays id ∷ rule.IsServer server ∷ rule.PromisedAt id server ∷ [])
rules_of (of.Counting rank call kind) = beginning rank call []
rules_of (of.Counted server rank call info) =
    begun (rule.InRun rank ∷ rule.Counts rank call ∷ rule.IsServer server ∷ rule.IsHome server rank ∷ rule.Tells server rank info ∷ [])
rules_of (of.Done rank call) = beginning rank call []
rules_of of.Exhausted = begun (rule.Settled ∷ rule.NotExhausted ∷ [])
rules_of (of.Over rank call end) = begun (rule.InRun rank ∷ rule.IsOpen rank call ∷ rule.HasCause end ∷ [])
rules_of (of.Finished rank call) = beginning rank call (rule.Outside rank ∷ [])

-- the rank is in the run, and its state passes the test; the unit was accepted, and passes it
abbrev pub rank_passes : Bag → Rank → (RankState → Bool) → Bool
rank_passes b rank test = has (rank_at b rank) test

-- the unit is there and passes the test
abbrev pub unit_passes : Bag → UnitId → (Placed → Bool) → Bool
unit_passes b id test = has (unit_of b id) test

-- the bag meets the rule; one that says what a server is charged with, has room for or is the home of says that it is in the run too
abbrev pub meets : Bag → Rule → Bool
meets b rule.InTurn = not (has_due b)
meets b (rule.InRun rank) = rank_passes b rank (λ r. true)
meets b (rule.Runs rank) = rank_passes b rank (λ r. is_running r.status)
meets b (rule.Next rank call) = rank_passes b rank (λ r. r.next == call)
meets b (rule.Outside rank) = rank_passes b rank (λ r. is_none r.batch)
meets b (rule.Within rank) = rank_passes b rank (λ r. not (is_none r.batch))
meets b (rule.Brings rank call) = rank_passes b rank (λ r. has (offer r.status) (λ o. o.0 == call))
meets b (rule.IsServer server) = is_server b server
meets b (rule.Undeclined rank server) = rank_passes b rank (λ r. not (has_declined r server))
meets b (rule.Charged server used) = is_server b server && (used == charge b server)
meets b (rule.TooMuch rank used) = rank_passes b rank (λ r. has (offer r.status) (λ o. nat_lt b.limit (used + o.1)))
meets b (rule.Puts id) = rank_passes b id.rank (λ r. has (putting r.status) (λ u. same_unit u.id id))
meets b (rule.TakesUnit server id) =
    rank_passes b id.rank (λ r. has (putting r.status) (λ u. is_server b server && fits b server (length u.body)))
meets b (rule.AllDeclined rank) = rank_passes b rank (all_declined b)
meets b (rule.Begins batch) = rank_passes b batch.rank (λ r. has (keeping r.status) (λ k. k.0 == batch.number))
meets b (rule.TakesCommon server batch) =
    rank_passes b batch.rank (λ r. has (keeping r.status) (λ k. is_server b server && fits b server (length k.1)))
meets b (rule.Ends batch) = rank_passes b batch.rank (λ r. is_closing r.status && is_of batch r.batch)
meets b (rule.Keeps server batch) = has (part_of b batch) (λ p. (p.server.0 == server.0) && not p.freed)
meets b (rule.Due batch) = has (part_of b batch) is_due
meets b (rule.Wants rank call) = rank_passes b rank (λ r. has (wish r.status) (λ w. w.0 == call))
meets b (rule.FreeAt id server) = unit_passes b id (λ u. is_free_at server u.place)
meets b (rule.Permits rank id) =
    rank_passes b rank (λ r. has (wish r.status) (λ w. unit_passes b id (λ u. permitted rank w.1 u.unit.kind u.unit.target)))
meets b (rule.Tries rank call) = rank_passes b rank (λ r. has (trying r.status) (λ w. w.0 == call))
meets b (rule.NoneFits server rank) = rank_passes b rank (λ r. has (trying r.status) (λ w. not (has_fit_at b server rank w.1)))
meets b (rule.PinnedTo id rank) = unit_passes b id (λ u. is_pinned_to rank u.place)
meets b (rule.AwaitsOwn rank id) = rank_passes b rank (λ r. has (fetching r.status) (λ f. same_unit f.0 id && not f.1))
meets b (rule.PinnedAt id server rank) = unit_passes b id (λ u. is_pinned server rank u.place)
meets b (rule.AwaitsCommon rank batch) =
    rank_passes b rank (λ r. has (fetching r.status) (λ f. f.1 && unit_passes b f.0 (λ u. is_of batch u.unit.common)))
meets b (rule.HasLength id n) = unit_passes b id (λ u. length u.unit.body == n)
meets b (rule.Stays id) = unit_passes b id (λ u. not (is_travelling u.place))
meets b (rule.Elsewhere id server) = unit_passes b id (λ u. not (is_placed_at server u.place))
meets b (rule.Unpromised id) = is_none (promise_of b id)
meets b (rule.Fits server n) = is_server b server && fits b server n
meets b (rule.PromisedAt id server) = has (promise_of b id) (λ p. p.server.0 == server.0)
meets b (rule.TravelsTo id server) = unit_passes b id (λ u. is_travelling_to server u.place)
meets b (rule.Counts rank call) = rank_passes b rank (λ r. has (counting r.status) (λ c. c.0 == call))
meets b (rule.IsHome server rank) = is_server b server && (server.0 == home_of b.servers rank)
meets b (rule.Tells server rank info) = rank_passes b rank (λ r. has (counting r.status) (λ c. same_info info (info_of b server c.1)))
meets b rule.Settled = settled b
meets b rule.NotExhausted = not b.exhausted
meets b (rule.IsOpen rank call) = rank_passes b rank (λ r. has (open_call r.status) (λ c. c == call))
meets b (rule.HasCause end) = has_cause b end

-- the first of these rules that the bag does not meet
abbrev pub broken : Bag → List Rule → Option Rule
broken b rules = find (λ r. not (meets b r)) rules
