-- Steps of a server, worked by hand.
use Rattle.std.proofs.Common.{◌≡◌, ◌-◌, ◌^◌, ℕ, ℤ, pos, Bool, true, false, List, [], ◌∷◌, ◌++◌, drop, map, Option, Some, None, refl}
use Rattle.std.proofs.Common.{replicate, arith}
use Rattle.std.specs.Prelude.{is_some, option_and_then}
use Rattle.std.specs.List.{flat_map}
use Rattle.std.specs.Option.{option_map}
use Rattle.adlb_unit.specs.Limits.{InRanks, InServers}
use Rattle.adlb_unit.specs.Links.{sending}
use Rattle.adlb_unit.specs.declared.actors.Actor.{Actor}
use Rattle.adlb_unit.specs.declared.actors.Actor.TheVariants as by
use Rattle.adlb_unit.specs.declared.configs.Config.{Config}
use Rattle.adlb_unit.specs.declared.letters.Sending.{Sending}
use Rattle.adlb_unit.specs.declared.messages.Message.{Message}
use Rattle.adlb_unit.specs.declared.messages.Message.TheVariants as tells
use Rattle.adlb_unit.specs.declared.names.Rank.{Rank}
use Rattle.adlb_unit.specs.declared.names.Server.{Server}
use Rattle.adlb_unit.specs.declared.names.Target.{Target}
use Rattle.adlb_unit.specs.declared.names.Target.TheVariants as targets
use Rattle.adlb_unit.specs.declared.names.UnitId.{UnitId}
use Rattle.adlb_unit.specs.declared.names.WorkType.{WorkType}
use Rattle.adlb_unit.specs.declared.notes.End.TheVariants as ends_by
use Rattle.adlb_unit.specs.declared.units.Unit.{Unit}
use Rattle.bag_ledger.specs.declared.entries.Entry.{Entry}
use Rattle.bag_ledger.specs.declared.entries.Entry.TheVariants as enters
use Rattle.bag_ledger.specs.Runs.{note_of}
use Rattle.work_queue.specs.Queue.{with_unit}
use Rattle.server_components.specs.Pushes.{asks_room}
use Rattle.server_law.specs.Acts.{Act, Around, Checks_alone, Finds_alone, Notes_own, Tells}
use Rattle.server_law.specs.Carried.{Served}
use Rattle.server_law.specs.Endings.{ends_event, tells_all}
use Rattle.server_law.specs.Finding.{taker}
use Rattle.server_law.specs.Plan.{decided}
use Rattle.server_components.specs.declared.waits.Waiting.{Waiting}
use Rattle.server_components.specs.declared.wishes.Wish.{Wish}
use Rattle.server_law.specs.State.{Kept, ServerModel, awaiting, idle, start}
use Rattle.server_law.specs.Step.{serve}

-- Runs, of servers with a limit of 64 bytes.

-- a run of these numbers of ranks and servers
abbrev pub run_of : (ranks servers : ℕ) → InRanks ranks → InServers servers → Config
run_of ranks servers many several = record {
  ranks = ranks;
  servers = servers;
  limit = 64;
  ranks_within = many;
  servers_within = several;
  limit_within = (omega arith, omega arith);
}

abbrev one_rank : Config
one_rank = run_of 1 1 (omega arith, omega arith) (omega arith, omega arith)

-- two ranks and one server
abbrev pub two_ranks : Config
two_ranks = run_of 2 1 (omega arith, omega arith) (omega arith, omega arith)

abbrev three_ranks : Config
three_ranks = run_of 3 1 (omega arith, omega arith) (omega arith, omega arith)

abbrev two_servers : Config
two_servers = run_of 1 2 (omega arith, omega arith) (omega arith, omega arith)

-- a rank by its number
abbrev pub rank : ℕ → Rank
rank number = record { 0 = number }

-- a server by its number
abbrev pub server : ℕ → Server
server number = record { 0 = number }

-- server 0 at its start
abbrev begun : Config → ServerModel
begun config = start config (server 0)

-- Units of rank 0.

-- rank 0's unit of this number
abbrev pub id : ℕ → UnitId
id number = record { rank = rank 0; number = number }

-- a unit of this number, length, priority and target
abbrev pub sized_unit : ℕ → ℕ → ℤ → Target → Unit
sized_unit size number prio target =
    record { id = id number; kind = record { 0 = 2 }; prio = prio; target = target; answer = None; common = None; body = replicate size 7 }

-- a unit of this number and target
abbrev pub unit : ℕ → Target → Unit
unit number target = sized_unit 4 number (pos 0) target

-- Letters, and what is seen of the events that handle them.

-- a letter and its sender
pub record Said : Type 0 where
  pub from : Actor
  pub stamp : ℕ
  pub message : Message

-- of rank 0, with a stamp
abbrev stamped : ℕ → Message → Said
stamped stamp message = record { from = by.Rank (rank 0); stamp = stamp; message = message }

-- the rank of this number says this
abbrev pub says : ℕ → Message → Said
says from message = record { from = by.Rank (rank from); stamp = 0; message = message }

-- the rank puts the unit
abbrev pub puts : ℕ → Unit → Said
puts from unit = says from (tells.Put unit)

-- the rank reserves, in the call of this number
abbrev pub reserves : ℕ → ℕ → Said
reserves from request = says from (tells.Reserve request None)

record Seen : Type 0 where
  sends : List Sending
  entries : List Entry
  waits : List ℕ

-- what the server makes of a letter
abbrev pub heard : ServerModel → Said → Option Served
heard s x = serve s x.from (record { stamp = x.stamp; place = 0; message = x.message })

abbrev seen : Served → Seen
seen x = record { sends = x.sends; entries = x.entries; waits = map (λ (e : Waiting). e.wish.rank.0) x.state.kept.parked.waiting }

-- up to the first letter that is not expected
abbrev further : (ServerModel → List Seen) → Option Served → List Seen
further later None = []
further later (Some x) = seen x ∷ later x.state

abbrev events : ServerModel → List Said → List Seen
events s [] = []
events s (x ∷ xs) = further (λ t. events t xs) (heard s x)

-- what is entered, in order
abbrev entered : ServerModel → List Said → List Entry
entered s letters = flat_map (λ (x : Seen). x.entries) (events s letters)

abbrev is_expected : ServerModel → Said → Bool
is_expected s x = is_some (heard s x)

-- the server after these letters, if each is expected
abbrev after : Option ServerModel → List Said → Option ServerModel
after s [] = s
after s (x ∷ letters) = after (option_map (λ (y : Served). y.state) (option_and_then (λ t. heard t x) s)) letters

abbrev is_shut : Config → List Said → Option Bool
is_shut config letters = option_map (λ (s : ServerModel). s.kept.shut) (after (Some (begun config)) letters)

-- what server 0 says to a rank: by the event's stamp, and the place among its letters to the rank
abbrev pub tells_to : ℕ → ℕ → ℕ → Message → Sending
tells_to stamp place to message = sending stamp place (by.Rank (rank to)) message

-- the grant of a unit in this call
abbrev pub grant : ℕ → Unit → Message
grant request unit = tells.Grant request (note_of (server 0) unit)

abbrev used_up : ℕ → Message
used_up request = tells.Ended request ends_by.Exhausted

-- what it enters
abbrev pub accepts : ℕ → Entry
accepts number = enters.Accepted (server 0) (id number)

-- the entry of a grant
abbrev pub grants : ℕ → ℕ → ℕ → Entry
grants to request number = enters.Granted (server 0) (rank to) request (id number)

abbrev gives_bytes : ℕ → ℕ → Entry
gives_bytes to number = enters.Fetched (server 0) (rank to) (id number)

abbrev over : ℕ → ℕ → Entry
over from request = enters.Over (rank from) request ends_by.Exhausted

-- One rank and one server. The stamp of an event is one more than the greater of the letter's and the last event's.

abbrev board : Unit
board = sized_unit 40 0 (pos 0) targets.Any

a_rank_alone :
    events (begun one_rank)
    (puts 0 board ∷ puts 0 (sized_unit 25 1 (pos 0) targets.Any) ∷ reserves 0 2 ∷ stamped 9 (tells.Fetch 3 (id 0)) ∷ reserves 0 4
    ∷ reserves 0 5 ∷ says 0 tells.Finish ∷ [])
    ≡ record { sends = tells_to 1 0 0 (tells.Accepted 0) ∷ []; entries = accepts 0 ∷ []; waits = [] }
    ∷ record { sends = tells_to 2 1 0 (tells.Full 1 40) ∷ []; entries = enters.Refused (server 0) (id 1) 40 ∷ []; waits = [] }
    ∷ record { sends = tells_to 3 2 0 (grant 2 board) ∷ []; entries = grants 0 2 0 ∷ []; waits = [] }
    ∷ record { sends = tells_to 10 3 0 (tells.Bytes 3 board.body) ∷ []; entries = gives_bytes 0 0 ∷ []; waits = [] }
    ∷ record { sends = tells_to 11 4 0 (used_up 4) ∷ []; entries = enters.Exhausted ∷ over 0 4 ∷ []; waits = [] }
    ∷ record { sends = tells_to 12 5 0 (used_up 5) ∷ []; entries = over 0 5 ∷ []; waits = [] }
    ∷ record { sends = []; entries = []; waits = [] }
    ∷ []
a_rank_alone = refl

-- Two ranks. Where both wait and nothing is left, both are told, in the order in which they came.

both_wait :
    events (begun two_ranks) (reserves 1 0 ∷ reserves 0 0 ∷ reserves 0 1 ∷ says 1 tells.Finish ∷ says 0 tells.Finish ∷ [])
    ≡ record { sends = []; entries = []; waits = 1 ∷ [] }
    ∷ record {
      sends = tells_to 2 0 1 (used_up 0) ∷ tells_to 2 0 0 (used_up 0) ∷ [];
      entries = enters.Exhausted ∷ over 1 0 ∷ over 0 0 ∷ [];
      waits = [];
    }
    ∷ record { sends = tells_to 3 1 0 (used_up 1) ∷ []; entries = over 0 1 ∷ []; waits = [] }
    ∷ record { sends = []; entries = []; waits = [] }
    ∷ record { sends = []; entries = []; waits = [] }
    ∷ []
both_wait = refl

-- a unit that no rank that waits may have is left where it is
abbrev wants : ℕ → Option (List WorkType) → Said
wants from types = says from (tells.Reserve 0 types)

a_unit_that_suits_nobody_is_left :
    entered (begun two_ranks) (puts 0 (unit 0 (targets.Only (rank 1))) ∷ wants 1 (Some (record { 0 = 3 } ∷ [])) ∷ wants 0 None ∷ [])
    ≡ accepts 0 ∷ enters.Exhausted ∷ over 1 0 ∷ over 0 0 ∷ []
a_unit_that_suits_nobody_is_left = refl

-- where one finishes while the other waits, this is found then, and the other is told
one_finishes :
    events (begun two_ranks) (reserves 1 0 ∷ says 0 tells.Finish ∷ says 1 tells.Finish ∷ [])
    ≡ record { sends = []; entries = []; waits = 1 ∷ [] }
    ∷ record { sends = tells_to 2 0 1 (used_up 0) ∷ []; entries = enters.Exhausted ∷ over 1 0 ∷ []; waits = [] }
    ∷ record { sends = []; entries = []; waits = [] }
    ∷ []
one_finishes = refl

-- the last Finish letter shuts the server
the_first_finish_does_not_shut : is_shut two_ranks (reserves 1 0 ∷ says 0 tells.Finish ∷ []) ≡ Some false
the_first_finish_does_not_shut = refl

the_last_finish_shuts : is_shut two_ranks (reserves 1 0 ∷ says 0 tells.Finish ∷ says 1 tells.Finish ∷ []) ≡ Some true
the_last_finish_shuts = refl

a_rank_alone_shuts : is_shut one_rank (says 0 tells.Finish ∷ []) ≡ Some true
a_rank_alone_shuts = refl

-- Three ranks, of which rank 2 waits first, and then rank 1. A put of rank 0 goes to the first that may have it.

a_put_goes_to_the_first :
    events (begun three_ranks) (reserves 2 0 ∷ reserves 1 0 ∷ puts 0 (unit 0 targets.Any) ∷ puts 0 (unit 1 targets.Any) ∷ [])
    ≡ record { sends = []; entries = []; waits = 2 ∷ [] }
    ∷ record { sends = []; entries = []; waits = 2 ∷ 1 ∷ [] }
    ∷ record {
      sends = tells_to 3 0 0 (tells.Accepted 0) ∷ tells_to 3 0 2 (grant 0 (unit 0 targets.Any)) ∷ [];
      entries = accepts 0 ∷ grants 2 0 0 ∷ [];
      waits = 1 ∷ [];
    }
    ∷ record {
      sends = tells_to 4 1 0 (tells.Accepted 1) ∷ tells_to 4 0 1 (grant 0 (unit 1 targets.Any)) ∷ [];
      entries = accepts 1 ∷ grants 1 0 1 ∷ [];
      waits = [];
    }
    ∷ []
a_put_goes_to_the_first = refl

a_put_goes_to_the_rank_that_its_target_names_before_others :
    events (begun three_ranks) (reserves 2 0 ∷ reserves 1 0 ∷ puts 0 (unit 0 (targets.Soft (rank 1))) ∷ [])
    ≡ record { sends = []; entries = []; waits = 2 ∷ [] }
    ∷ record { sends = []; entries = []; waits = 2 ∷ 1 ∷ [] }
    ∷ record {
      sends = tells_to 3 0 0 (tells.Accepted 0) ∷ tells_to 3 0 1 (grant 0 (unit 0 (targets.Soft (rank 1)))) ∷ [];
      entries = accepts 0 ∷ grants 1 0 0 ∷ [];
      waits = 2 ∷ [];
    }
    ∷ []
a_put_goes_to_the_rank_that_its_target_names_before_others = refl

-- what is entered where rank 2 wants these types, rank 1 any, and rank 0 puts a unit of type 2 with this target
abbrev settled : Option (List WorkType) → Target → List Entry
settled types target = entered (begun three_ranks) (wants 2 types ∷ wants 1 None ∷ puts 0 (unit 0 target) ∷ [])

before_a_rank_that_does_not_wait_it_goes_to_the_first : settled None (targets.Soft (rank 0)) ≡ accepts 0 ∷ grants 2 0 0 ∷ []
before_a_rank_that_does_not_wait_it_goes_to_the_first = refl

for_the_second_alone_it_goes_there : settled None (targets.Only (rank 1)) ≡ accepts 0 ∷ grants 1 0 0 ∷ []
for_the_second_alone_it_goes_there = refl

for_a_rank_alone_that_does_not_wait_it_stays : settled None (targets.Only (rank 0)) ≡ accepts 0 ∷ []
for_a_rank_alone_that_does_not_wait_it_stays = refl

of_another_type_it_goes_to_the_second : settled (Some (record { 0 = 3 } ∷ [])) targets.Any ≡ accepts 0 ∷ grants 1 0 0 ∷ []
of_another_type_it_goes_to_the_second = refl

of_another_type_its_first_rank_does_not_get_it :
    settled (Some (record { 0 = 3 } ∷ [])) (targets.Soft (rank 2)) ≡ accepts 0 ∷ grants 1 0 0 ∷ []
of_another_type_its_first_rank_does_not_get_it = refl

-- What a reserve is granted first, whatever the priorities: what is for the rank alone, then for it before others, then for any, then for
-- another rank before it.

abbrev four_puts : List Said
four_puts =
    puts 0 (sized_unit 4 0 (pos 9) targets.Any) ∷ puts 0 (sized_unit 4 1 (pos 5) (targets.Soft (rank 1)))
    ∷ puts 0 (sized_unit 4 2 (pos 0) (targets.Only (rank 0))) ∷ puts 0 (sized_unit 4 3 (pos 1) (targets.Soft (rank 0))) ∷ []

abbrev granted_of_four : ℕ → List ℕ → List Entry
granted_of_four to requests = drop 4 (entered (begun three_ranks) (four_puts ++ map (reserves to) requests))

rank_zero_gets_them_by_target : granted_of_four 0 (4 ∷ 5 ∷ 6 ∷ 7 ∷ 8 ∷ []) ≡ grants 0 4 2 ∷ grants 0 5 3 ∷ grants 0 6 0 ∷ grants 0 7 1 ∷ []
rank_zero_gets_them_by_target = refl

rank_one_gets_none_of_another_alone : granted_of_four 1 (0 ∷ 1 ∷ 2 ∷ 3 ∷ []) ≡ grants 1 0 1 ∷ grants 1 1 0 ∷ grants 1 2 3 ∷ []
rank_one_gets_none_of_another_alone = refl

-- Two servers: a rank that reserves waits, and the other server is asked for it.

the_other_is_asked :
    events (begun two_servers) (reserves 0 0 ∷ [])
    ≡ record {
      sends = sending 1 0 (by.Server (server 1)) (tells.Ask (rank 0) 0 None) ∷ [];
      entries = [];
      waits = 0 ∷ [];
    }
    ∷ []
the_other_is_asked = refl

its_answer_is_awaited :
    option_map (λ (s : ServerModel). s.kept.parked.waiting) (after (Some (begun two_servers)) (reserves 0 0 ∷ []))
    ≡ Some (awaiting (record { rank = rank 0; request = 0; types = None }) (server 1) [] ∷ [])
its_answer_is_awaited = refl

one_of_two_servers_is_not_shut : is_shut two_servers (says 0 tells.Finish ∷ []) ≡ Some false
one_of_two_servers_is_not_shut = refl

-- Servers made by hand: for rank 1 a server is asked and has not answered, and rank 0 is idle.

abbrev wish : ℕ → Wish
wish from = record { rank = rank from; request = 0; types = None }

abbrev asked : Waiting
asked = record { wish = wish 1; asked = Some (server 1); to_ask = [] }

abbrev rests : Waiting
rests = idle (wish 0) []

abbrev behind_asked : Around
behind_asked = record { before = asked ∷ []; behind = [] }

a_unit_passes_who_is_not_idle : taker (unit 0 targets.Any) (asked ∷ rests ∷ []) ≡ Some (record { at = behind_asked; here = rests })
a_unit_passes_who_is_not_idle = refl

the_end_passes_who_is_not_idle : tells_all ends_by.Exhausted [] (asked ∷ rests ∷ []) ≡ Tells behind_asked (wish 0) [] ends_by.Exhausted ∷ []
the_end_passes_who_is_not_idle = refl

-- one server of two ranks, which wait
abbrev made : List Waiting → Kept → ServerModel
made waiting k = record (begun two_ranks) { kept = record k { parked = record { waiting = waiting; wishes = [] } } }

abbrev empty : Kept
empty = (begun two_ranks).kept

abbrev follows : List Waiting → Kept → List Act
follows waiting k = decided ends_event (made waiting k)

a_server_is_not_quiet_while_one_is_asked : follows (asked ∷ rests ∷ []) empty ≡ []
a_server_is_not_quiet_while_one_is_asked = refl

abbrev both : List Waiting
both = idle (wish 1) [] ∷ rests ∷ []

abbrev all_is_used_up : List Act
all_is_used_up =
    Notes_own ∷ Finds_alone ∷ Tells (record { before = []; behind = rests ∷ [] }) (wish 1) [] ends_by.Exhausted
    ∷ Tells (record { before = []; behind = [] }) (wish 0) [] ends_by.Exhausted ∷ []

where_both_are_idle_it_is : follows both empty ≡ all_is_used_up
where_both_are_idle_it_is = refl

-- the check ends without a verdict where a free unit is permitted to one of them, or all work was found used up before
abbrev one_fits : Kept
one_fits = record empty { queue = with_unit empty.queue (unit 0 (targets.Only (rank 0))) }

where_a_unit_fits_there_is_no_verdict : follows both one_fits ≡ Notes_own ∷ Checks_alone ∷ []
where_a_unit_fits_there_is_no_verdict = refl

it_is_found_once : follows both (record empty { exhausted = true }) ≡ Notes_own ∷ Checks_alone ∷ []
it_is_found_once = refl

-- and nothing follows while a push stands, nor where the server has not changed since its last notice, and no check is wanted
a_server_is_not_quiet_while_it_pushes :
    follows both (record empty { pushing = record { push = Some (asks_room (server 1) (id 0) 4); pushes = 1 } }) ≡ []
a_server_is_not_quiet_while_it_pushes = refl

each_change_is_noted_once : follows both (record empty { noted = Some 0 }) ≡ []
each_change_is_noted_once = refl

-- A rank says that the problem is done. It is told that the server has heard, and the ranks that wait are told; later puts are ended.

abbrev done_over : ℕ → ℕ → Entry
done_over from request = enters.Over (rank from) request ends_by.NoMoreWork

abbrev done_ended : ℕ → Message
done_ended request = tells.Ended request ends_by.NoMoreWork

the_problem_is_done :
    drop 2 (events (begun three_ranks) (reserves 2 0 ∷ reserves 1 5 ∷ says 0 (tells.Done 3) ∷ puts 0 (unit 4 targets.Any) ∷ []))
    ≡ record {
      sends = tells_to 3 0 0 (tells.DoneHeard 3) ∷ tells_to 3 0 2 (done_ended 0) ∷ tells_to 3 0 1 (done_ended 5) ∷ [];
      entries = done_over 2 0 ∷ done_over 1 5 ∷ [];
      waits = [];
    }
    ∷ record { sends = tells_to 4 1 0 (done_ended 4) ∷ []; entries = done_over 0 4 ∷ []; waits = [] }
    ∷ []
the_problem_is_done = refl

-- Counts: of units of priorities 3 and 7, then of the one that is left free, and of a type without units.

abbrev counts : ℕ → ℕ → Said
counts request kind = says 0 (tells.Count request (record { 0 = kind }))

abbrev counted : ℕ → ℕ → Option ℤ → ℕ → Entry
counted request free top at_top = enters.Counted (server 0) (rank 0) request (record { free = free; top = top; at_top = at_top })

free_units_of_the_type_are_counted :
    drop 2 (entered (begun one_rank) (puts 0 (sized_unit 4 0 (pos 3) targets.Any) ∷ puts 0 (sized_unit 4 1 (pos 7) targets.Any)
    ∷ counts 2 2 ∷ counts 3 5 ∷ reserves 0 4 ∷ counts 5 2 ∷ []))
    ≡ counted 2 2 (Some (pos 7)) 1 ∷ counted 3 0 None 0 ∷ enters.Granted (server 0) (rank 0) 4 (id 1) ∷ counted 5 1 (Some (pos 3)) 1 ∷ []
free_units_of_the_type_are_counted = refl

-- Tries. A rank that finds nothing does not wait; one for which there is a unit gets it, as by a reserve.

abbrev tries : ℕ → ℕ → Option (List WorkType) → Said
tries from request types = says from (tells.Try request types)

abbrev looked : ℕ → ℕ → Entry
looked from request = enters.Looked (server 0) (rank from) request

abbrev nothing : ℕ → Message
nothing request = tells.Nothing request

a_rank_looks_twice_and_is_granted_a_unit_between :
    events (begun one_rank) (tries 0 0 None ∷ puts 0 (unit 1 targets.Any) ∷ tries 0 2 None ∷ tries 0 3 None ∷ [])
    ≡ record { sends = tells_to 1 0 0 (nothing 0) ∷ []; entries = looked 0 0 ∷ []; waits = [] }
    ∷ record { sends = tells_to 2 1 0 (tells.Accepted 1) ∷ []; entries = accepts 1 ∷ []; waits = [] }
    ∷ record { sends = tells_to 3 2 0 (grant 2 (unit 1 targets.Any)) ∷ []; entries = grants 0 2 1 ∷ []; waits = [] }
    ∷ record { sends = tells_to 4 3 0 (nothing 3) ∷ []; entries = looked 0 3 ∷ []; waits = [] }
    ∷ []
a_rank_looks_twice_and_is_granted_a_unit_between = refl

-- what rank 1 is told that tries for these types where rank 0 has put a unit of type 2 with this target
abbrev tried_after : Target → Option (List WorkType) → List Entry
tried_after target types = drop 1 (entered (begun two_ranks) (puts 0 (unit 0 target) ∷ tries 1 0 types ∷ []))

a_unit_for_another_is_not_granted : tried_after (targets.Only (rank 0)) None ≡ looked 1 0 ∷ []
a_unit_for_another_is_not_granted = refl

a_unit_of_another_type_is_not_granted : tried_after targets.Any (Some (record { 0 = 3 } ∷ [])) ≡ looked 1 0 ∷ []
a_unit_of_another_type_is_not_granted = refl

a_unit_for_another_before_others_is_granted : tried_after (targets.Soft (rank 0)) (Some (record { 0 = 2 } ∷ [])) ≡ grants 1 0 0 ∷ []
a_unit_for_another_before_others_is_granted = refl

-- the best one is granted
the_unit_of_the_highest_priority_is_granted :
    drop 2 (entered (begun one_rank) (puts 0 (sized_unit 4 0 (pos 3) targets.Any) ∷ puts 0 (sized_unit 4 1 (pos 7) targets.Any)
    ∷ tries 0 2 None ∷ [])) ≡ grants 0 2 1 ∷ []
the_unit_of_the_highest_priority_is_granted = refl

-- the end is told to a rank that tries where the problem is done, and to none where all work was found used up
abbrev tries_at : Kept → List Entry
tries_at k = entered (record (begun one_rank) { kept = k }) (tries 0 0 None ∷ [])

where_the_problem_is_done_the_end_is_told : tries_at (record empty { done = true }) ≡ enters.Over (rank 0) 0 ends_by.NoMoreWork ∷ []
where_the_problem_is_done_the_end_is_told = refl

where_all_work_is_used_up_it_is_not : tries_at (record empty { exhausted = true }) ≡ looked 0 0 ∷ []
where_all_work_is_used_up_it_is_not = refl

-- Which letters are expected, with three ranks, after some letters.

abbrev is_expected_after : List Said → Said → Option Bool
is_expected_after letters x = option_map (λ s. is_expected s x) (after (Some (begun three_ranks)) letters)

the_last_rank_may_be_named : is_expected_after [] (puts 0 (unit 0 (targets.Only (rank 2)))) ≡ Some true
the_last_rank_may_be_named = refl

a_rank_beyond_may_not : is_expected_after [] (puts 0 (unit 0 (targets.Only (rank 3)))) ≡ Some false
a_rank_beyond_may_not = refl

a_rank_beyond_may_not_come_before_others : is_expected_after [] (puts 0 (unit 0 (targets.Soft (rank 3)))) ≡ Some false
a_rank_beyond_may_not_come_before_others = refl

a_unit_of_another_is_not_expected : is_expected_after [] (puts 1 (unit 0 targets.Any)) ≡ Some false
a_unit_of_another_is_not_expected = refl

a_unit_is_not_put_twice : is_expected_after (puts 0 (unit 0 targets.Any) ∷ []) (puts 0 (unit 0 targets.Any)) ≡ Some false
a_unit_is_not_put_twice = refl

a_rank_that_waits_does_not_reserve : is_expected_after (reserves 1 0 ∷ []) (reserves 1 1) ≡ Some false
a_rank_that_waits_does_not_reserve = refl

a_rank_that_waits_does_not_finish : is_expected_after (reserves 1 0 ∷ []) (says 1 tells.Finish) ≡ Some false
a_rank_that_waits_does_not_finish = refl

a_rank_does_not_finish_twice : is_expected_after (says 1 tells.Finish ∷ []) (says 1 tells.Finish) ≡ Some false
a_rank_does_not_finish_twice = refl

a_rank_reserves_at_its_home_alone : is_some (heard (start two_servers (server 1)) (reserves 0 0)) ≡ false
a_rank_reserves_at_its_home_alone = refl

a_rank_counts_at_its_home_alone : is_some (heard (start two_servers (server 1)) (counts 0 2)) ≡ false
a_rank_counts_at_its_home_alone = refl

a_rank_tries_at_each_server : is_some (heard (start two_servers (server 1)) (tries 0 0 None)) ≡ true
a_rank_tries_at_each_server = refl

a_rank_says_so_to_each_server : is_some (heard (start two_servers (server 1)) (says 0 (tells.Done 0))) ≡ true
a_rank_says_so_to_each_server = refl

a_rank_that_waits_does_not_count : is_expected_after (reserves 0 0 ∷ []) (counts 1 2) ≡ Some false
a_rank_that_waits_does_not_count = refl

a_rank_finishes_at_each_server : is_some (heard (start two_servers (server 1)) (says 0 tells.Finish)) ≡ true
a_rank_finishes_at_each_server = refl

a_unit_is_not_fetched_before_it_is_granted :
    is_expected_after (puts 0 (unit 0 targets.Any) ∷ []) (says 0 (tells.Fetch 1 (id 0))) ≡ Some false
a_unit_is_not_fetched_before_it_is_granted = refl

abbrev fetches : Said
fetches = says 0 (tells.Fetch 2 (id 0))

a_unit_that_is_granted_is_fetched : is_expected_after (puts 0 (unit 0 targets.Any) ∷ reserves 0 1 ∷ []) fetches ≡ Some true
a_unit_that_is_granted_is_fetched = refl

a_unit_is_fetched_once : is_expected_after (puts 0 (unit 0 targets.Any) ∷ reserves 0 1 ∷ fetches ∷ []) fetches ≡ Some false
a_unit_is_fetched_once = refl

the_last_stamp_may_be_given : is_expected (begun one_rank) (stamped (2 ^ 48 - 1) tells.Finish) ≡ true
the_last_stamp_may_be_given = refl

a_stamp_beyond_may_not : is_expected (begun one_rank) (stamped (2 ^ 48) tells.Finish) ≡ false
a_stamp_beyond_may_not = refl

a_rank_beyond_is_not_expected : is_expected (begun one_rank) (says 1 tells.Finish) ≡ false
a_rank_beyond_is_not_expected = refl

no_server_finishes : is_expected (begun two_servers) (record { from = by.Server (server 1); stamp = 0; message = tells.Finish }) ≡ false
no_server_finishes = refl
