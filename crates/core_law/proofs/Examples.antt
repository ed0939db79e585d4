-- Small runs, by computation.
use Rattle.std.proofs.Common.{◌≡◌, ◌≤◌, ◌<◌, ℕ, ◌+◌, ◌-◌, ◌^◌, pos, Bool, true, false, List, map, [], ◌∷◌, ◌++◌, Option, Some, None, refl}
use Rattle.std.proofs.Common.{replicate, length, arith}
use Rattle.std.specs.Prelude.{option_and_then, take}
use Rattle.std.specs.List.{range_with_len}
use Rattle.std.specs.Option.{option_map}
use Rattle.adlb_unit.specs.declared.actors.Actor.TheVariants as by
use Rattle.adlb_unit.specs.declared.configs.Config.{Config}
use Rattle.adlb_unit.specs.declared.letters.Letter.{Letter}
use Rattle.adlb_unit.specs.declared.names.Rank.{Rank}
use Rattle.adlb_unit.specs.declared.names.Server.{Server}
use Rattle.adlb_unit.specs.declared.names.Target.TheVariants.{Any}
use Rattle.adlb_unit.specs.declared.names.UnitId.{UnitId}
use Rattle.adlb_unit.specs.declared.notes.End.TheVariants as ends_by
use Rattle.adlb_unit.specs.declared.units.Unit.{Unit}
use Rattle.bag_ledger.specs.Bag.{start as empty_bag}
use Rattle.bag_ledger.specs.Runs.{calls, first_illegal}
use Rattle.bag_ledger.specs.declared.entries.Call.TheVariants as calls_to
use Rattle.bag_ledger.specs.declared.entries.Entry.{Entry}
use Rattle.bag_ledger.specs.declared.entries.Entry.TheVariants as enters
use Rattle.rank_client.specs.Calls.{is_fetched, is_granted}
use Rattle.server_law.specs.Acts.{Gives}
use Rattle.server_law.specs.State.{ServerModel}
use Rattle.core_run.specs.declared.events.Event.{Event}
use Rattle.core_run.specs.declared.events.Event.TheVariants as occurs
use Rattle.core_run.specs.Runs.{run, transcript}
use Rattle.core_run.specs.World.{World, happens, has_ended, post, rank_named, server_named, start}
use Rattle.core_law.specs.Acting.{acted}
use Rattle.core_law.specs.Letters.{one_letter, remotes}
use Rattle.core_law.specs.Measures.{measure, weights}

-- a run with this number of ranks and of servers, each server with room for 64 bytes
abbrev sized : (ranks servers : ℕ) → (0 < ranks) × (ranks ≤ 32) → (0 < servers) × (servers ≤ 8) → Config
sized ranks servers some few = record {
  ranks = ranks;
  servers = servers;
  limit = 64;
  ranks_within = some;
  servers_within = few;
  limit_within = (omega arith, omega arith);
}

abbrev one_server : Config
one_server = sized 1 1 (omega arith, omega arith) (omega arith, omega arith)

abbrev two_servers : Config
two_servers = sized 1 2 (omega arith, omega arith) (omega arith, omega arith)

abbrev three_servers : Config
three_servers = sized 1 3 (omega arith, omega arith) (omega arith, omega arith)

-- two ranks and two servers
abbrev pub two_and_two : Config
two_and_two = sized 2 2 (omega arith, omega arith) (omega arith, omega arith)

abbrev two_ranks : Config
two_ranks = sized 2 1 (omega arith, omega arith) (omega arith, omega arith)

abbrev three_ranks : Config
three_ranks = sized 3 1 (omega arith, omega arith) (omega arith, omega arith)

-- a rank by its number
abbrev pub rank : ℕ → Rank
rank number = rank_named number

-- a server by its number
abbrev pub server : ℕ → Server
server number = server_named number

-- of the put in this call of the rank
abbrev pub unit : ℕ → ℕ → UnitId
unit number call = record { rank = rank_named number; number = call }

-- the rank begins to put forty bytes of type 2, to reserve any type, to fetch the unit, to count type 2, to try for any type, to finish
abbrev puts : ℕ → Event
puts number = occurs.Call (rank number) (calls_to.Put (record { 0 = 2 }) (pos 0) Any None (replicate 40 7))

-- the rank of this number reserves
abbrev pub reserves : ℕ → Event
reserves number = occurs.Call (rank number) (calls_to.Reserve None)

abbrev fetches : ℕ → UnitId → Event
fetches number id = occurs.Call (rank number) (calls_to.Fetch id)

abbrev counts : ℕ → Event
counts number = occurs.Call (rank number) (calls_to.Count (record { 0 = 2 }))

abbrev tries : ℕ → Event
tries number = occurs.Call (rank number) (calls_to.Try None)

-- the rank of this number finishes
abbrev pub finishes : ℕ → Event
finishes number = occurs.Call (rank number) calls_to.Finish

-- the server handles the rank's letter, the rank the server's, and a server that of another
abbrev pub asks : ℕ → ℕ → Event
asks number at = occurs.Deliver (by.Rank (rank number)) (by.Server (server at))

-- the rank hears the next letter of the server
abbrev pub hears : ℕ → ℕ → Event
hears number at = occurs.Deliver (by.Server (server at)) (by.Rank (rank number))

-- a server handles the next letter of another
abbrev pub brings : ℕ → ℕ → Event
brings from to = occurs.Deliver (by.Server (server from)) (by.Server (server to))

abbrev putting : ℕ → ℕ → Entry
putting number call = enters.Putting (rank number) call (record { 0 = 2 }) (pos 0) Any None (replicate 40 7)

-- the ledger after these events
abbrev pub ledger_after : Config → List Event → Option (List Entry)
ledger_after config events = option_map (λ (w : World). w.ledger) (run (start config) events)

-- One rank.

-- each server takes one put, and the third goes round the ring and is rejected
rejected_after_each_server : ledger_after two_servers
    (puts 0 ∷ asks 0 0 ∷ hears 0 0 ∷ puts 0 ∷ asks 0 1 ∷ hears 0 1 ∷ puts 0 ∷ asks 0 0 ∷ hears 0 0 ∷ asks 0 1 ∷ hears 0 1 ∷ [])
    ≡ Some (
    putting 0 0 ∷ enters.Accepted (server 0) (unit 0 0) ∷ putting 0 1 ∷ enters.Accepted (server 1) (unit 0 1) ∷ putting 0 2
    ∷ enters.Refused (server 0) (unit 0 2) 40 ∷ enters.Refused (server 1) (unit 0 2) 40 ∷ enters.Rejected (rank 0) 2 ∷ [])
unfolding post
rejected_after_each_server = refl

-- a count has what the home took, and nothing of the other server
home_alone_is_counted : ledger_after two_servers
    (puts 0 ∷ asks 0 0 ∷ hears 0 0 ∷ puts 0 ∷ asks 0 1 ∷ hears 0 1 ∷ counts 0 ∷ asks 0 0 ∷ hears 0 0 ∷ [])
    ≡ Some (
    putting 0 0 ∷ enters.Accepted (server 0) (unit 0 0) ∷ putting 0 1 ∷ enters.Accepted (server 1) (unit 0 1)
    ∷ enters.Counting (rank 0) 2 (record { 0 = 2 })
    ∷ enters.Counted (server 0) (rank 0) 2 (record { free = 1; top = Some (pos 0); at_top = 1 }) ∷ [])
unfolding post
home_alone_is_counted = refl

-- a try goes round the ring from the home on, and after each server has looked there is no unit now
each_server_looks : ledger_after three_servers (tries 0 ∷ asks 0 0 ∷ hears 0 0 ∷ asks 0 1 ∷ hears 0 1 ∷ asks 0 2 ∷ hears 0 2 ∷ [])
    ≡ Some (
    enters.Tried (rank 0) 0 None ∷ enters.Looked (server 0) (rank 0) 0 ∷ enters.Looked (server 1) (rank 0) 0
    ∷ enters.Looked (server 2) (rank 0) 0 ∷ enters.NoCurrent (rank 0) 0 ∷ [])
unfolding post
each_server_looks = refl

-- the unit is at server 1, which grants it, and from there it is fetched
other_server_grants : ledger_after two_servers
    (puts 0 ∷ asks 0 0 ∷ hears 0 0 ∷ puts 0 ∷ asks 0 1 ∷ hears 0 1 ∷ tries 0 ∷ asks 0 0 ∷ hears 0 0 ∷ tries 0 ∷ asks 0 0 ∷ hears 0 0
    ∷ asks 0 1 ∷ hears 0 1 ∷ fetches 0 (unit 0 1) ∷ asks 0 1 ∷ hears 0 1 ∷ [])
    ≡ Some (
    putting 0 0 ∷ enters.Accepted (server 0) (unit 0 0) ∷ putting 0 1 ∷ enters.Accepted (server 1) (unit 0 1)
    ∷ enters.Tried (rank 0) 2 None ∷ enters.Granted (server 0) (rank 0) 2 (unit 0 0) ∷ enters.Tried (rank 0) 3 None
    ∷ enters.Looked (server 0) (rank 0) 3 ∷ enters.Granted (server 1) (rank 0) 3 (unit 0 1) ∷ enters.Fetching (rank 0) 4 (unit 0 1)
    ∷ enters.Fetched (server 1) (rank 0) (unit 0 1) ∷ [])
unfolding post is_granted is_fetched
other_server_grants = refl

-- with one server what was put is granted and fetched; then all is used up, and with the only rank the server has ended
one_server_alone : ledger_after one_server
    (puts 0 ∷ asks 0 0 ∷ hears 0 0 ∷ reserves 0 ∷ asks 0 0 ∷ hears 0 0 ∷ fetches 0 (unit 0 0) ∷ asks 0 0 ∷ hears 0 0
    ∷ reserves 0 ∷ asks 0 0 ∷ hears 0 0 ∷ puts 0 ∷ finishes 0 ∷ asks 0 0 ∷ [])
    ≡ Some (
    putting 0 0 ∷ enters.Accepted (server 0) (unit 0 0) ∷ enters.Asked (rank 0) 1 None ∷ enters.Granted (server 0) (rank 0) 1 (unit 0 0)
    ∷ enters.Fetching (rank 0) 2 (unit 0 0) ∷ enters.Fetched (server 0) (rank 0) (unit 0 0) ∷ enters.Asked (rank 0) 3 None
    ∷ enters.Exhausted ∷ enters.Over (rank 0) 3 ends_by.Exhausted ∷ putting 0 4 ∷ enters.Over (rank 0) 4 ends_by.Exhausted
    ∷ enters.Finished (rank 0) 5 ∷ [])
unfolding post is_granted is_fetched
one_server_alone = refl

-- no event: a letter where none is under way, a call while one is pending
no_letter : ledger_after two_servers (puts 0 ∷ asks 0 1 ∷ []) ≡ None
unfolding post
no_letter = refl

no_second_call : ledger_after two_servers (puts 0 ∷ puts 0 ∷ []) ≡ None
unfolding post
no_second_call = refl

no_letter_to_itself : ledger_after two_servers (reserves 0 ∷ asks 0 0 ∷ brings 0 0 ∷ []) ≡ None
unfolding post
no_letter_to_itself = refl

-- Finish goes to each server, and each that handles it while the other has not has not ended
finish_to_each : ledger_after two_servers (finishes 0 ∷ asks 0 1 ∷ asks 0 0 ∷ []) ≡ Some (enters.Finished (rank 0) 0 ∷ [])
unfolding post
finish_to_each = refl

no_second_finish : ledger_after two_servers (finishes 0 ∷ asks 0 1 ∷ asks 0 1 ∷ []) ≡ None
unfolding post
no_second_finish = refl

-- calls after the last answer wait in the ledger alone: nothing of the put is in the transcript
transcript_is_behind : option_map (λ (w : World). length (transcript w (rank 0))) (run (start two_servers) (puts 0 ∷ asks 0 0 ∷ []))
    ≡ Some 0
unfolding post
transcript_is_behind = refl

ledger_is_ahead : option_map (λ (w : World). length (calls w.config w.ledger (rank 0))) (run (start two_servers) (puts 0 ∷ asks 0 0 ∷ []))
    ≡ Some 1
unfolding post
ledger_is_ahead = refl

-- that no letter is stuck holds of stamps that are given: the put of this world bears the last of them, or one past it
abbrev put_stamped : ℕ → Option (List Entry)
put_stamped stamp =
    option_and_then (λ (w : World). option_map (λ (x : World). x.ledger)
    (happens (record w { links = map (λ row. map (λ letters. map (λ (l : Letter). record l { stamp = stamp }) letters) row) w.links })
    (asks 0 0)))
    (run (start one_server) (puts 0 ∷ []))

last_stamp_is_handled : put_stamped (2 ^ 48 - 1) ≡ Some (putting 0 0 ∷ enters.Accepted (server 0) (unit 0 0) ∷ [])
unfolding post
last_stamp_is_handled = refl

stuck_past_the_stamps : put_stamped (2 ^ 48) ≡ None
unfolding post
stuck_past_the_stamps = refl

-- Several ranks over one server.

-- who waits at each server, and whether it has ended
abbrev pub waiting_after : Config → List Event → Option (List (List Rank × Bool))
waiting_after config events =
    option_map (λ (w : World). map (λ (s : ServerModel). (map (λ e. e.wish.rank) s.kept.parked.waiting, has_ended s)) w.servers)
    (run (start config) events)

-- how many letters of a rank's call are under way, or how often it waits, before the first event and after each
abbrev calls_along : Config → ℕ → List Event → List (Option ℕ)
calls_along config number events =
    map (λ k. option_map (measure (weights (one_letter (rank number)))) (run (start config) (take k events)))
    (range_with_len 0 (length events + 1))

-- Ranks 2 and 1 come to wait, in that order; the unit that rank 0 puts goes to rank 2, which fetches it.
abbrev put_for_the_first : List Event
put_for_the_first =
    reserves 2 ∷ asks 2 0 ∷ reserves 1 ∷ asks 1 0 ∷ puts 0 ∷ asks 0 0 ∷ hears 2 0 ∷ hears 0 0 ∷ fetches 2 (unit 0 0) ∷ asks 2 0
    ∷ hears 2 0 ∷ []

first_gets_it : ledger_after three_ranks put_for_the_first
    ≡ Some (
    enters.Asked (rank 2) 0 None ∷ enters.Asked (rank 1) 0 None ∷ putting 0 0 ∷ enters.Accepted (server 0) (unit 0 0)
    ∷ enters.Granted (server 0) (rank 2) 0 (unit 0 0) ∷ enters.Fetching (rank 2) 1 (unit 0 0)
    ∷ enters.Fetched (server 0) (rank 2) (unit 0 0) ∷ [])
unfolding post is_granted is_fetched
first_gets_it = refl

second_waits_on : waiting_after three_ranks put_for_the_first ≡ Some ((rank 1 ∷ [], false) ∷ [])
unfolding post is_granted is_fetched
second_waits_on = refl

-- one thing stands for each pending call: the request, that the rank waits, the grant; and then those of the fetch
one_thing_stands : calls_along three_ranks 2 put_for_the_first
    ≡ Some 0 ∷ Some 1 ∷ Some 1 ∷ Some 1 ∷ Some 1 ∷ Some 1 ∷ Some 1 ∷ Some 0 ∷ Some 0 ∷ Some 1 ∷ Some 1 ∷ Some 0 ∷ []
unfolding post is_granted is_fetched measure
one_thing_stands = refl

-- Rank 1 waits, and then rank 0: all work is used up, and both are told, in the order in which they came.
abbrev both_in_vain : List Event
both_in_vain = reserves 1 ∷ reserves 0 ∷ asks 1 0 ∷ asks 0 0 ∷ hears 0 0 ∷ hears 1 0 ∷ []

told_in_order : ledger_after two_ranks both_in_vain
    ≡ Some (
    enters.Asked (rank 1) 0 None ∷ enters.Asked (rank 0) 0 None ∷ enters.Exhausted ∷ enters.Over (rank 1) 0 ends_by.Exhausted
    ∷ enters.Over (rank 0) 0 ends_by.Exhausted ∷ [])
unfolding post
told_in_order = refl

none_waits_on : waiting_after two_ranks both_in_vain ≡ Some (([], false) ∷ [])
unfolding post
none_waits_on = refl

-- While rank 1 waits rank 0 tries in vain, and nothing is found used up before it reserves as well.
abbrev try_beside : List Event
try_beside = reserves 1 ∷ asks 1 0 ∷ tries 0 ∷ asks 0 0 ∷ hears 0 0 ∷ []

trying_is_not_waiting : ledger_after two_ranks try_beside
    ≡ Some (
    enters.Asked (rank 1) 0 None ∷ enters.Tried (rank 0) 0 None ∷ enters.Looked (server 0) (rank 0) 0 ∷ enters.NoCurrent (rank 0) 0 ∷ [])
unfolding post
trying_is_not_waiting = refl

other_waits_beside : waiting_after two_ranks try_beside ≡ Some ((rank 1 ∷ [], false) ∷ [])
unfolding post
other_waits_beside = refl

-- one letter stands for the try: the request, and the answer
one_letter_tries : calls_along two_ranks 0 try_beside ≡ Some 0 ∷ Some 0 ∷ Some 0 ∷ Some 1 ∷ Some 1 ∷ Some 0 ∷ []
unfolding post measure
one_letter_tries = refl

-- Rank 0 finishes while rank 1 waits: all work is used up, and rank 1 is told. When it has finished too, the server has ended.
abbrev finish_beside : List Event
finish_beside = reserves 1 ∷ asks 1 0 ∷ finishes 0 ∷ asks 0 0 ∷ hears 1 0 ∷ finishes 1 ∷ asks 1 0 ∷ []

other_is_told : ledger_after two_ranks finish_beside
    ≡ Some (
    enters.Asked (rank 1) 0 None ∷ enters.Finished (rank 0) 0 ∷ enters.Exhausted ∷ enters.Over (rank 1) 0 ends_by.Exhausted
    ∷ enters.Finished (rank 1) 1 ∷ [])
unfolding post
other_is_told = refl

other_waits_until_then : waiting_after two_ranks (take 3 finish_beside) ≡ Some ((rank 1 ∷ [], false) ∷ [])
unfolding post
other_waits_until_then = refl

not_ended_before_both : waiting_after two_ranks (take 6 finish_beside) ≡ Some (([], false) ∷ [])
unfolding post
not_ended_before_both = refl

nobody_is_left : waiting_after two_ranks finish_beside ≡ Some (([], true) ∷ [])
unfolding post
nobody_is_left = refl

-- while its call is pending one thing stands for it, and then none
other_is_told_once : calls_along two_ranks 1 finish_beside ≡ Some 0 ∷ Some 1 ∷ Some 1 ∷ Some 1 ∷ Some 1 ∷ Some 0 ∷ Some 0 ∷ Some 0 ∷ []
unfolding post measure
other_is_told_once = refl

-- Several servers.

-- at each server the ranks whose wishes are kept
abbrev wished_after : Config → List Event → Option (List (List Rank))
wished_after config events =
    option_map (λ (w : World). map (λ (s : ServerModel). map (λ e. e.rank) s.kept.parked.wishes) w.servers) (run (start config) events)

-- where the ledger is first illegal, if it is
abbrev pub illegal_from : Config → List Entry → Option ℕ
illegal_from config ledger = first_illegal (empty_bag config) 0 ledger

abbrev illegal_at : World → Option ℕ
illegal_at w = illegal_from w.config w.ledger

-- Rank 1 reserves any type; its home asks server 0, which has none, and rank 1 waits there. The home is quiet and gives notice to server
-- 0, where rank 0 runs. Rank 0 puts `hello` of type 1 at server 0, which hints to the home. That asks again, server 0 grants, and the
-- home passes the grant on.
abbrev hello : List ℕ
hello = 104 ∷ 101 ∷ 108 ∷ 108 ∷ 111 ∷ []

-- a rank reserves where no server has a unit
abbrev pub asked_in_vain : List Event
asked_in_vain = reserves 1 ∷ asks 1 1 ∷ brings 1 0 ∷ brings 0 1 ∷ brings 1 0 ∷ []

abbrev puts_hello : Event
puts_hello = occurs.Call (rank 0) (calls_to.Put (record { 0 = 1 }) (pos 0) Any None hello)

abbrev putting_hello : Entry
putting_hello = enters.Putting (rank 0) 0 (record { 0 = 1 }) (pos 0) Any None hello

abbrev hinted : List Event
hinted = asked_in_vain ++ puts_hello ∷ asks 0 0 ∷ hears 0 0 ∷ brings 0 1 ∷ brings 1 0 ∷ brings 0 1 ∷ hears 1 1 ∷ []

waits_at_home : waiting_after two_and_two asked_in_vain ≡ Some (([], false) ∷ (rank 1 ∷ [], false) ∷ [])
unfolding post
waits_at_home = refl

wish_is_kept_elsewhere : wished_after two_and_two asked_in_vain ≡ Some ((rank 1 ∷ []) ∷ [] ∷ [])
unfolding post
wish_is_kept_elsewhere = refl

other_server_has_it : ledger_after two_and_two hinted
    ≡ Some (
    enters.Asked (rank 1) 0 None ∷ putting_hello ∷ enters.Accepted (server 0) (unit 0 0)
    ∷ enters.Granted (server 0) (rank 1) 0 (unit 0 0) ∷ [])
unfolding post is_granted is_fetched
other_server_has_it = refl

none_waits_after_it : waiting_after two_and_two hinted ≡ Some (([], false) ∷ ([], false) ∷ [])
unfolding post is_granted is_fetched
none_waits_after_it = refl

no_wish_is_left : wished_after two_and_two hinted ≡ Some ([] ∷ [] ∷ [])
unfolding post is_granted is_fetched
no_wish_is_left = refl

-- one thing stands for the reserve throughout: the request, that the rank waits and is idle, or a letter between servers
one_thing_stands_between : calls_along two_and_two 1 hinted
    ≡ Some 0 ∷ Some 1 ∷ Some 1 ∷ Some 1 ∷ Some 1 ∷ Some 1 ∷ Some 1 ∷ Some 1 ∷ Some 1 ∷ Some 1 ∷ Some 1 ∷ Some 1 ∷ Some 0 ∷ []
unfolding post is_granted is_fetched measure
one_thing_stands_between = refl

-- the letters between server 1, the home, and server 0 about call 0 of rank 1, at each moment: one as long as server 0 is unanswered
abbrev between_along : Config → List Event → List (Option ℕ)
between_along config events =
    map (λ n. option_map (measure (weights (remotes (server 1) (server 0) (rank 1) 0))) (run (start config) (take n events)))
    (range_with_len 0 (length events + 1))

one_letter_between : between_along two_and_two hinted
    ≡ Some 0 ∷ Some 0 ∷ Some 1 ∷ Some 1 ∷ Some 0 ∷ Some 0 ∷ Some 0 ∷ Some 0 ∷ Some 0 ∷ Some 1 ∷ Some 1 ∷ Some 0 ∷ Some 0 ∷ []
unfolding post is_granted is_fetched measure
one_letter_between = refl

-- While the hint is under way a unit comes to the rank's home, which gives it to the rank. The hint comes too late, and `hello` stays.
abbrev hinted_late : List Event
hinted_late = asked_in_vain ++ puts_hello ∷ asks 0 0 ∷ hears 0 0 ∷ puts 0 ∷ asks 0 1 ∷ brings 0 1 ∷ hears 1 1 ∷ []

home_was_first : ledger_after two_and_two hinted_late
    ≡ Some (
    enters.Asked (rank 1) 0 None ∷ putting_hello ∷ enters.Accepted (server 0) (unit 0 0) ∷ putting 0 1
    ∷ enters.Accepted (server 1) (unit 0 1) ∷ enters.Granted (server 1) (rank 1) 0 (unit 0 1) ∷ [])
unfolding post is_granted is_fetched
home_was_first = refl

nobody_is_asked_after_it : waiting_after two_and_two hinted_late ≡ Some (([], false) ∷ ([], false) ∷ [])
unfolding post is_granted is_fetched
nobody_is_asked_after_it = refl

-- The first server that is asked has a unit: it is granted there, and fetched from there.
abbrev asked_and_granted : List Event
asked_and_granted =
    puts_hello ∷ asks 0 0 ∷ hears 0 0 ∷ reserves 1 ∷ asks 1 1 ∷ brings 1 0 ∷ brings 0 1 ∷ hears 1 1 ∷ fetches 1 (unit 0 0) ∷ asks 1 0
    ∷ hears 1 0 ∷ []

fetched_where_granted : ledger_after two_and_two asked_and_granted
    ≡ Some (
    putting_hello ∷ enters.Accepted (server 0) (unit 0 0) ∷ enters.Asked (rank 1) 0 None
    ∷ enters.Granted (server 0) (rank 1) 0 (unit 0 0) ∷ enters.Fetching (rank 1) 1 (unit 0 0)
    ∷ enters.Fetched (server 0) (rank 1) (unit 0 0) ∷ [])
unfolding post is_granted is_fetched
fetched_where_granted = refl

-- The other server has granted a unit to rank 1, and its grant is not yet back, when a unit comes to the rank's home.
abbrev granted_elsewhere : List Event
granted_elsewhere = puts 0 ∷ asks 0 0 ∷ hears 0 0 ∷ reserves 1 ∷ asks 1 1 ∷ brings 1 0 ∷ puts 0 ∷ asks 0 1 ∷ []

abbrev forty_bytes : Unit
forty_bytes = record {
  id = unit 0 1;
  kind = record { 0 = 2 };
  prio = pos 0;
  target = Any;
  answer = None;
  common = None;
  body = replicate 40 7;
}

-- a home that gives it to the rank, though that is not idle
abbrev gives_it_too : World → World
gives_it_too w =
    acted w (server 1)
    (Gives (record { before = []; behind = [] }) (record { rank = rank 1; request = 0; types = None }) [] forty_bytes)

asked_rank_gets_no_other : ledger_after two_and_two granted_elsewhere
    ≡ Some (
    putting 0 0 ∷ enters.Accepted (server 0) (unit 0 0) ∷ enters.Asked (rank 1) 0 None
    ∷ enters.Granted (server 0) (rank 1) 0 (unit 0 0) ∷ putting 0 1 ∷ enters.Accepted (server 1) (unit 0 1) ∷ [])
unfolding post
asked_rank_gets_no_other = refl

legal_without_it : option_map illegal_at (run (start two_and_two) granted_elsewhere) ≡ Some None
unfolding post
legal_without_it = refl

illegal_with_it : option_map (λ w. illegal_at (gives_it_too w)) (run (start two_and_two) granted_elsewhere) ≡ Some (Some 6)
unfolding post
illegal_with_it = refl
