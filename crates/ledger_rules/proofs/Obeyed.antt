-- An entry is a step exactly if the bag meets all its rules.
use Rattle.std.proofs.Common.{◌≡◌, ◌+◌, ◌==◌, ◌&&◌, not, length}
use Rattle.std.specs.Prelude.{is_none, nat_lt}
use Rattle.std.specs.List.{list_all}
use Rattle.adlb_unit.specs.Ids.{same_unit}
use Rattle.adlb_unit.specs.Permit.{permitted}
use Rattle.adlb_unit.specs.Targets.{home_of}
use Rattle.bag_ledger.specs.declared.entries.Entry.{Entry}
use Rattle.bag_ledger.specs.declared.entries.Entry.TheVariants.{Putting, Refused, Accepted, Rejected, Keeping, Kept, Closing, Closed, Freed}
use Rattle.bag_ledger.specs.declared.entries.Entry.TheVariants.{Asked, Tried, Granted, Looked, NoCurrent, Fetching, Fetched, CommonFetched}
use Rattle.bag_ledger.specs.declared.entries.Entry.TheVariants.{Promised, Left, Arrived, Withdrawn, Counting, Counted, Done, Exhausted}
use Rattle.bag_ledger.specs.declared.entries.Entry.TheVariants.{Over, Finished}
use Rattle.bag_ledger.specs.Bag.{Bag, rank_at, unit_of, part_of, promise_of, putting, keeping, offer, wish, open_call, has_declined}
use Rattle.bag_ledger.specs.Bag.{all_declined, charge, has_due, has_fit_at, is_due, is_free_at, is_placed_at, is_travelling, info_of}
use Rattle.bag_ledger.specs.Bag.{settled}
use Rattle.bag_ledger.specs.Step.{has, fits, is_closing, is_of, is_pinned, is_pinned_to, is_running, is_server, is_travelling_to, legal}
use Rattle.bag_ledger.specs.Step.{trying, counting, fetching, same_info}
use Rattle.bag_ledger.specs.Steps.{has_cause, in_turn}
use Rattle.ledger_rules.specs.Table.{meets, rules_of}
use Rattle.ledger_rules.proofs.Shapes.{two, three, four, begun_and, begun_as, begun_with, brought, closed_as, counted_as, fetched_as}
use Rattle.ledger_rules.proofs.Shapes.{freed_as, granted_as, looked_as, pending_all, pending_and, promised_as, refused_as}

-- an entry is in turn and legal exactly if the bag meets all its rules
pub obeyed : (b : Bag) (e : Entry) → (in_turn b e && legal b e) ≡ list_all (meets b) (rules_of e)
obeyed b (Putting rank call kind prio target answer body) =
    begun_as (not (has_due b)) (rank_at b rank) (λ r. is_running r.status) (λ r. r.next == call)
obeyed b (Refused server id used) =
    refused_as (not (has_due b)) (rank_at b id.rank) (λ r. offer r.status) (λ o. o.0 == id.number) (is_server b server)
    (λ r. not (has_declined r server)) (used == charge b server) (λ o. nat_lt b.limit (used + o.1))
obeyed b (Accepted server id) =
    brought (not (has_due b)) (rank_at b id.rank) (λ r. putting r.status) (λ u. same_unit u.id id) (is_server b server)
    (λ r. not (has_declined r server)) (λ u. fits b server (length u.body))
obeyed b (Rejected rank call) = pending_all (not (has_due b)) (rank_at b rank) (λ r. offer r.status) (λ o. o.0 == call) (all_declined b)
obeyed b (Keeping rank call common) =
    begun_with (not (has_due b)) (rank_at b rank) (λ r. is_running r.status) (λ r. r.next == call) (λ r. is_none r.batch)
obeyed b (Kept server batch) =
    brought (not (has_due b)) (rank_at b batch.rank) (λ r. keeping r.status) (λ k. k.0 == batch.number) (is_server b server)
    (λ r. not (has_declined r server)) (λ k. fits b server (length k.1))
obeyed b (Closing rank call) =
    begun_with (not (has_due b)) (rank_at b rank) (λ r. is_running r.status) (λ r. r.next == call) (λ r. not (is_none r.batch))
obeyed b (Closed server batch) =
    closed_as (not (has_due b)) (rank_at b batch.rank) (λ r. is_closing r.status && is_of batch r.batch) (is_server b server)
    (part_of b batch) (λ p. (p.server.0 == server.0) && not p.freed)
obeyed b (Freed server batch) =
    freed_as (is_server b server) (part_of b batch) (λ p. (p.server.0 == server.0) && not p.freed) is_due
obeyed b (Asked rank call types) = begun_as (not (has_due b)) (rank_at b rank) (λ r. is_running r.status) (λ r. r.next == call)
obeyed b (Tried rank call types) = begun_as (not (has_due b)) (rank_at b rank) (λ r. is_running r.status) (λ r. r.next == call)
obeyed b (Granted server rank call id) =
    granted_as (not (has_due b)) (rank_at b rank) (λ r. wish r.status) (λ w. w.0 == call) (is_server b server) (unit_of b id)
    (λ u. is_free_at server u.place) (λ w u. permitted rank w.1 u.unit.kind u.unit.target)
obeyed b (Looked server rank call) =
    looked_as (not (has_due b)) (rank_at b rank) (λ r. trying r.status) (λ w. w.0 == call) (is_server b server)
    (λ w. not (has_fit_at b server rank w.1))
obeyed b (NoCurrent rank call) = pending_all (not (has_due b)) (rank_at b rank) (λ r. trying r.status) (λ w. w.0 == call) (all_declined b)
obeyed b (Fetching rank call id) =
    begun_and (not (has_due b)) (rank_at b rank) (λ r. is_running r.status) (λ r. r.next == call)
    (has (unit_of b id) (λ u. is_pinned_to rank u.place))
obeyed b (Fetched server rank id) =
    fetched_as (not (has_due b)) (rank_at b rank) (λ r. has (fetching r.status) (λ f. same_unit f.0 id && not f.1)) (is_server b server)
    (has (unit_of b id) (λ u. is_pinned server rank u.place))
obeyed b (CommonFetched server rank batch) =
    closed_as (not (has_due b)) (rank_at b rank)
    (λ r. has (fetching r.status) (λ f. f.1 && has (unit_of b f.0) (λ u. is_of batch u.unit.common)))
    (is_server b server) (part_of b batch) (λ p. (p.server.0 == server.0) && not p.freed)
obeyed b (Promised server id n) =
    promised_as (not (has_due b)) (unit_of b id) (λ u. length u.unit.body == n) (is_server b server) (λ u. not (is_travelling u.place))
    (λ u. not (is_placed_at server u.place)) (is_none (promise_of b id)) (fits b server n)
obeyed b (Left server to id) =
    four (not (has_due b)) (has (unit_of b id) (λ u. is_free_at server u.place)) (is_server b server) (is_server b to)
    (has (promise_of b id) (λ p. p.server.0 == to.0))
obeyed b (Arrived server id) = two (not (has_due b)) (has (unit_of b id) (λ u. is_travelling_to server u.place)) (is_server b server)
obeyed b (Withdrawn server id) =
    three (not (has_due b)) (has (unit_of b id) (λ u. not (is_travelling u.place))) (is_server b server)
    (has (promise_of b id) (λ p. p.server.0 == server.0))
obeyed b (Counting rank call kind) = begun_as (not (has_due b)) (rank_at b rank) (λ r. is_running r.status) (λ r. r.next == call)
obeyed b (Counted server rank call info) =
    counted_as (not (has_due b)) (rank_at b rank) (λ r. counting r.status) (λ c. c.0 == call) (is_server b server)
    (server.0 == home_of b.servers rank) (λ c. same_info info (info_of b server c.1))
obeyed b (Done rank call) = begun_as (not (has_due b)) (rank_at b rank) (λ r. is_running r.status) (λ r. r.next == call)
obeyed b Exhausted = two (not (has_due b)) (settled b) (not b.exhausted)
obeyed b (Over rank call end) = pending_and (not (has_due b)) (rank_at b rank) (λ r. open_call r.status) (λ c. c == call) (has_cause b end)
obeyed b (Finished rank call) =
    begun_with (not (has_due b)) (rank_at b rank) (λ r. is_running r.status) (λ r. r.next == call) (λ r. is_none r.batch)
