-- The function and the relation are the same step.
use Rattle.std.proofs.Common.{◌≡◌, Bool, true, false, ◌&&◌, Some, None, refl}
use Rattle.std.specs.Prelude.{if◌then◌else◌}
use Rattle.std.proofs.lemmas.Bool.{and_parts, and_from}
use Rattle.bag_ledger.specs.declared.entries.Entry.{Entry}
use Rattle.bag_ledger.specs.declared.entries.Entry.TheVariants.{Putting, Refused, Accepted, Rejected, Keeping, Kept, Closing, Closed, Freed}
use Rattle.bag_ledger.specs.declared.entries.Entry.TheVariants.{Asked, Tried, Granted, Looked, NoCurrent, Fetching, Fetched, CommonFetched}
use Rattle.bag_ledger.specs.declared.entries.Entry.TheVariants.{Promised, Left, Arrived, Withdrawn, Counting, Counted, Done, Exhausted}
use Rattle.bag_ledger.specs.declared.entries.Entry.TheVariants.{Over, Finished}
use Rattle.bag_ledger.specs.Bag.{Bag}
use Rattle.bag_ledger.specs.Steps.{Steps, in_turn, after}
use Rattle.bag_ledger.specs.Step.{legal, step}
use Rattle.bag_ledger.proofs.Tests.{IsTest}
use Rattle.bag_ledger.proofs.Puts.{putting_test, refused_test, accepted_test, rejected_test}
use Rattle.bag_ledger.proofs.Batches.{keeping_test, kept_test, closing_test, closed_test, freed_test}
use Rattle.bag_ledger.proofs.Reserves.{asked_test, tried_test, granted_test, looked_test, no_current_test}
use Rattle.bag_ledger.proofs.Fetches.{fetching_test, fetched_test, common_fetched_test}
use Rattle.bag_ledger.proofs.Pushes.{promised_test, left_test, arrived_test, withdrawn_test}
use Rattle.bag_ledger.proofs.Ends.{counting_test, counted_test, done_test, exhausted_test, over_test, finished_test}

-- an entry passes its test in a bag exactly if it is legal there
pub legal_test : (b : Bag) (e : Entry) → IsTest b e
legal_test b (Putting rank call kind prio target answer body) = putting_test b rank call kind prio target answer body
legal_test b (Refused server id used) = refused_test b server id used
legal_test b (Accepted server id) = accepted_test b server id
legal_test b (Rejected rank call) = rejected_test b rank call
legal_test b (Keeping rank call common) = keeping_test b rank call common
legal_test b (Kept server batch) = kept_test b server batch
legal_test b (Closing rank call) = closing_test b rank call
legal_test b (Closed server batch) = closed_test b server batch
legal_test b (Freed server batch) = freed_test b server batch
legal_test b (Asked rank call types) = asked_test b rank call types
legal_test b (Tried rank call types) = tried_test b rank call types
legal_test b (Granted server rank call id) = granted_test b server rank call id
legal_test b (Looked server rank call) = looked_test b server rank call
legal_test b (NoCurrent rank call) = no_current_test b rank call
legal_test b (Fetching rank call id) = fetching_test b rank call id
legal_test b (Fetched server rank id) = fetched_test b server rank id
legal_test b (CommonFetched server rank batch) = common_fetched_test b server rank batch
legal_test b (Promised server id n) = promised_test b server id n
legal_test b (Left server to id) = left_test b server to id
legal_test b (Arrived server id) = arrived_test b server id
legal_test b (Withdrawn server id) = withdrawn_test b server id
legal_test b (Counting rank call kind) = counting_test b rank call kind
legal_test b (Counted server rank call info) = counted_test b server rank call info
legal_test b (Done rank call) = done_test b rank call
legal_test b Exhausted = exhausted_test b
legal_test b (Over rank call end) = over_test b rank call end
legal_test b (Finished rank call) = finished_test b rank call

passed : (t : Bool) (x next : Bag) → (if t then Some x else None) ≡ Some next → (t ≡ true) × (next ≡ x)
passed true x next e = (refl, cc)
passed false x next e = absurd (cc)

-- a step of the relation is what the function answers
pub row_is : (b next : Bag) (e : Entry) → Steps b e next → step b e ≡ Some next
row_is b next e s = rw (and_from (in_turn b e) (legal b e) s.0 ((legal_test b e).1 s.1), s.2) refl

-- what the function answers for an entry is a step of the relation
pub is_row : (b next : Bag) (e : Entry) → step b e ≡ Some next → Steps b e next
is_row b next e is =
    let t = passed (in_turn b e && legal b e) (after b e) next is in
    let u = and_parts (in_turn b e) (legal b e) t.0 in
    (u.0, (legal_test b e).0 u.1, t.1)
