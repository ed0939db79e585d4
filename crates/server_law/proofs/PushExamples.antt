-- Steps of server 0 of three, worked by hand: units that it pushes, and units that are pushed to it. Each server has room for 64 bytes,
-- and is pressed above 56.
use Rattle.std.proofs.Common.{◌≡◌, ℕ, pos, Bool, true, false, List, [], ◌∷◌, ◌++◌, Option, None, Some, refl}
use Rattle.std.specs.Prelude.{is_some, option_and_then}
use Rattle.std.specs.Option.{option_map}
use Rattle.adlb_unit.specs.declared.letters.Sending.{Sending}
use Rattle.adlb_unit.specs.declared.messages.Message.TheVariants as tells
use Rattle.adlb_unit.specs.declared.names.Target.TheVariants as targets
use Rattle.adlb_unit.specs.declared.names.UnitId.{UnitId}
use Rattle.adlb_unit.specs.declared.units.Unit.{Unit}
use Rattle.bag_ledger.specs.Runs.{note_of}
use Rattle.bag_ledger.specs.declared.entries.Entry.{Entry}
use Rattle.bag_ledger.specs.declared.entries.Entry.TheVariants as enters
use Rattle.server_components.specs.Pushes.{asks_room, has_sent}
use Rattle.server_components.specs.declared.standing.StandingPush.{StandingPush}
use Rattle.work_queue.specs.Queue.{Promise, charge_of}
use Rattle.server_law.specs.Carried.{Served}
use Rattle.server_law.specs.State.{ServerModel, start}
use Rattle.server_law.proofs.AskExamples.{fresh, server_says, tells_server}
use Rattle.server_law.proofs.Examples.{Said, accepts, grant, heard, id, puts, rank, reserves, says, server, sized_unit, tells_to, two_ranks}

-- what is seen of an event: also the push that stands, how many bytes the server is charged with, and what it promised
record Seen : Type 0 where
  sends : List Sending
  entries : List Entry
  push : Option StandingPush
  charge : ℕ
  promises : List Promise

abbrev seen : Served → Seen
seen x = record {
  sends = x.sends;
  entries = x.entries;
  push = x.state.kept.pushing.push;
  charge = charge_of x.state.kept.queue;
  promises = x.state.kept.queue.promises;
}

-- up to the first letter that is not expected
abbrev further : (ServerModel → List Seen) → Option Served → List Seen
further later None = []
further later (Some x) = seen x ∷ later x.state

abbrev events : ServerModel → List Said → List Seen
events s [] = []
events s (x ∷ xs) = further (λ t. events t xs) (heard s x)

-- the server after these letters, if each is expected; what is seen after those; and whether one more is expected then
abbrev after : ServerModel → List Said → Option ServerModel
after s [] = Some s
after s (x ∷ xs) = option_and_then (λ (y : Served). after y.state xs) (heard s x)

abbrev seen_after : List Said → List Said → Option (List Seen)
seen_after letters more = option_map (λ s. events s more) (after fresh letters)

abbrev is_expected_after : List Said → Said → Option Bool
is_expected_after letters x = option_map (λ s. is_some (heard s x)) (after fresh letters)

-- units of rank 0 for any rank, of priority 0
abbrev bytes : ℕ → ℕ → Unit
bytes size number = sized_unit size number (pos 0) targets.Any

abbrev pressing : Unit
pressing = bytes 57 0

-- Where a push begins.

a_put_of_an_eighth_less_begins_none :
    events fresh (puts 0 (bytes 56 0) ∷ [])
    ≡ record { sends = tells_to 1 0 0 (tells.Accepted 0) ∷ []; entries = accepts 0 ∷ []; push = None; charge = 56; promises = [] } ∷ []
a_put_of_an_eighth_less_begins_none = refl

-- the next server is asked first
a_byte_more_does :
    events fresh (puts 0 (bytes 57 0) ∷ [])
    ≡ record {
      sends = tells_to 1 0 0 (tells.Accepted 0) ∷ tells_server 1 0 1 (tells.PushQuery (id 0) 57) ∷ [];
      entries = accepts 0 ∷ [];
      push = Some (asks_room (server 1) (id 0) 57);
      charge = 57;
      promises = [];
    }
    ∷ []
a_byte_more_does = refl

with_one_server_none_begins :
    events (start two_ranks (server 0)) (puts 0 (bytes 60 0) ∷ [])
    ≡ record { sends = tells_to 1 0 0 (tells.Accepted 0) ∷ []; entries = accepts 0 ∷ []; push = None; charge = 60; promises = [] } ∷ []
with_one_server_none_begins = refl

-- another server asks for room for a unit of rank 4
abbrev query : ℕ → ℕ → ℕ → Said
query from number size = server_says from (tells.PushQuery (record { rank = rank 4; number = number }) size)

abbrev queries_after : List Said → Unit → Option (List Sending)
queries_after letters unit = option_map (λ (x : Served). x.sends) (option_and_then (λ s. heard s (puts 0 unit)) (after fresh letters))

-- of those for any rank the one of the lowest priority, and of these the one that came last
the_last_of_the_lowest_priority_goes :
    queries_after (puts 0 (sized_unit 20 0 (pos 1) targets.Any) ∷ puts 0 (sized_unit 19 1 (pos 1) targets.Any) ∷ [])
    (sized_unit 18 2 (pos 3) targets.Any)
    ≡ Some (tells_to 3 2 0 (tells.Accepted 2) ∷ tells_server 3 0 1 (tells.PushQuery (id 1) 19) ∷ [])
the_last_of_the_lowest_priority_goes = refl

a_unit_for_a_rank_stays :
    queries_after (puts 0 (sized_unit 20 0 (pos 3) targets.Any) ∷ []) (sized_unit 37 1 (pos 0) (targets.Only (rank 5)))
    ≡ Some (tells_to 2 1 0 (tells.Accepted 1) ∷ tells_server 2 0 1 (tells.PushQuery (id 0) 20) ∷ [])
a_unit_for_a_rank_stays = refl

and_if_there_is_no_other_no_push_begins :
    queries_after [] (sized_unit 57 0 (pos 0) (targets.Soft (rank 5))) ≡ Some (tells_to 1 0 0 (tells.Accepted 0) ∷ [])
and_if_there_is_no_other_no_push_begins = refl

-- a unit that the put gives to an idle rank is not pushed
abbrev rank_zero_idle : List Said
rank_zero_idle = reserves 0 4 ∷ server_says 1 (tells.AskNone (rank 0) 4) ∷ server_says 2 (tells.AskNone (rank 0) 4) ∷ []

a_unit_that_is_given_is_not_pushed :
    queries_after rank_zero_idle pressing
    ≡ Some (tells_to 4 0 0 (tells.Accepted 0) ∷ tells_to 4 1 0 (grant 4 pressing) ∷ [])
a_unit_that_is_given_is_not_pushed = refl

promised_room_presses :
    queries_after (query 1 0 50 ∷ []) (bytes 7 0)
    ≡ Some (tells_to 2 0 0 (tells.Accepted 0) ∷ tells_server 2 1 1 (tells.PushQuery (id 0) 7) ∷ [])
promised_room_presses = refl

a_second_does_not_begin_while_one_stands :
    queries_after (puts 0 pressing ∷ []) (bytes 2 1) ≡ Some (tells_to 2 1 0 (tells.Accepted 1) ∷ [])
a_second_does_not_begin_while_one_stands = refl

a_put_that_is_refused_begins_none :
    queries_after (puts 0 (bytes 56 0) ∷ []) (bytes 9 1) ≡ Some (tells_to 2 1 0 (tells.Full 1 56) ∷ [])
a_put_that_is_refused_begins_none = refl

-- Where this server pushes.

abbrev yes : ℕ → ℕ → Said
yes from number = server_says from (tells.PushYes (id number))

abbrev no : ℕ → ℕ → Said
no from number = server_says from (tells.PushNo (id number))

abbrev ack : ℕ → ℕ → Said
ack from number = server_says from (tells.PushAck (id number))

-- there is room, and the unit is still free: it goes; the push stands until it is acknowledged
a_free_unit_goes :
    seen_after (puts 0 pressing ∷ []) (yes 1 0 ∷ ack 1 0 ∷ [])
    ≡ Some (record {
      sends = tells_server 2 1 1 (tells.PushUnit pressing) ∷ [];
      entries = enters.Left (server 0) (server 1) (id 0) ∷ [];
      push = Some (has_sent (server 1) (id 0) 57);
      charge = 0;
      promises = [];
    }
    ∷ record { sends = []; entries = []; push = None; charge = 0; promises = [] }
    ∷ [])
a_free_unit_goes = refl

-- it was granted meanwhile: the push is taken back
a_pinned_unit_stays :
    seen_after (puts 0 pressing ∷ reserves 0 1 ∷ []) (yes 1 0 ∷ ack 1 0 ∷ [])
    ≡ Some (record {
      sends = tells_server 3 1 1 (tells.PushCancel (id 0)) ∷ [];
      entries = [];
      push = Some (has_sent (server 1) (id 0) 57);
      charge = 57;
      promises = [];
    }
    ∷ record { sends = []; entries = []; push = None; charge = 57; promises = [] }
    ∷ [])
a_pinned_unit_stays = refl

-- and so it is where the unit was fetched
a_spent_unit_is_not_pushed :
    seen_after (puts 0 pressing ∷ reserves 0 1 ∷ says 0 (tells.Fetch 2 (id 0)) ∷ []) (yes 1 0 ∷ [])
    ≡ Some (record {
      sends = tells_server 4 1 1 (tells.PushCancel (id 0)) ∷ [];
      entries = [];
      push = Some (has_sent (server 1) (id 0) 57);
      charge = 0;
      promises = [];
    }
    ∷ [])
a_spent_unit_is_not_pushed = refl

-- there is no room: the push has ended, and the next put begins another, for which the next server is asked
a_refused_push_ends :
    seen_after (puts 0 pressing ∷ []) (no 1 0 ∷ puts 0 (bytes 1 1) ∷ [])
    ≡ Some (record { sends = []; entries = []; push = None; charge = 57; promises = [] }
    ∷ record {
      sends = tells_to 3 1 0 (tells.Accepted 1) ∷ tells_server 3 0 2 (tells.PushQuery (id 1) 1) ∷ [];
      entries = accepts 1 ∷ [];
      push = Some (asks_room (server 2) (id 1) 1);
      charge = 58;
      promises = [];
    }
    ∷ [])
a_refused_push_ends = refl

-- after each other server the first comes again
they_are_asked_in_turn :
    queries_after (puts 0 pressing ∷ no 1 0 ∷ puts 0 (bytes 1 1) ∷ no 2 1 ∷ []) (bytes 1 2)
    ≡ Some (tells_to 5 2 0 (tells.Accepted 2) ∷ tells_server 5 1 1 (tells.PushQuery (id 2) 1) ∷ [])
they_are_asked_in_turn = refl

-- Where another server pushes here.

abbrev theirs : ℕ → UnitId
theirs number = record { rank = rank 4; number = number }

abbrev their_unit : ℕ → ℕ → Unit
their_unit size number = record (bytes size number) { id = theirs number }

abbrev comes : ℕ → Unit → Said
comes from unit = server_says from (tells.PushUnit unit)

abbrev cancel : ℕ → ℕ → Said
cancel from number = server_says from (tells.PushCancel (theirs number))

abbrev room : ℕ → ℕ → Promise
room number size = record { id = theirs number; length = size }

-- as long as what is promised fits
room_is_promised_as_long_as_there_is_some :
    events fresh (query 1 0 60 ∷ query 2 1 5 ∷ query 2 2 4 ∷ [])
    ≡ record {
      sends = tells_server 1 0 1 (tells.PushYes (theirs 0)) ∷ [];
      entries = enters.Promised (server 0) (theirs 0) 60 ∷ [];
      push = None;
      charge = 60;
      promises = room 0 60 ∷ [];
    }
    ∷ record {
      sends = tells_server 2 0 2 (tells.PushNo (theirs 1)) ∷ [];
      entries = [];
      push = None;
      charge = 60;
      promises = room 0 60 ∷ [];
    }
    ∷ record {
      sends = tells_server 3 1 2 (tells.PushYes (theirs 2)) ∷ [];
      entries = enters.Promised (server 0) (theirs 2) 4 ∷ [];
      push = None;
      charge = 64;
      promises = room 0 60 ∷ room 2 4 ∷ [];
    }
    ∷ []
room_is_promised_as_long_as_there_is_some = refl

-- promised room counts for puts
a_put_is_refused_what_is_promised :
    queries_after (query 1 0 60 ∷ []) (bytes 5 0) ≡ Some (tells_to 2 0 0 (tells.Full 0 60) ∷ [])
a_put_is_refused_what_is_promised = refl

-- a unit that comes goes to the idle rank before its coming is acknowledged
a_unit_that_comes_goes_to_who_waits :
    seen_after
    (rank_zero_idle ++ query 1 0 60 ∷ [])
    (comes 1 (their_unit 60 0) ∷ [])
    ≡ Some (record {
      sends = tells_to 5 0 0 (tells.Grant 4 (note_of (server 0) (their_unit 60 0))) ∷ tells_server 5 2 1 (tells.PushAck (theirs 0)) ∷ [];
      entries = enters.Arrived (server 0) (theirs 0) ∷ enters.Granted (server 0) (rank 0) 4 (theirs 0) ∷ [];
      push = None;
      charge = 60;
      promises = [];
    }
    ∷ [])
a_unit_that_comes_goes_to_who_waits = refl

-- where nobody waits here, the home of a rank that wished it is told
a_unit_that_comes_takes_a_wish_off :
    seen_after (server_says 2 (tells.Ask (rank 5) 3 None) ∷ query 1 0 60 ∷ []) (comes 1 (their_unit 60 0) ∷ [])
    ≡ Some (record {
      sends = tells_server 3 1 2 (tells.Hint (rank 5) 3) ∷ tells_server 3 1 1 (tells.PushAck (theirs 0)) ∷ [];
      entries = enters.Arrived (server 0) (theirs 0) ∷ [];
      push = None;
      charge = 60;
      promises = [];
    }
    ∷ [])
a_unit_that_comes_takes_a_wish_off = refl

-- a unit that comes begins no push, though the server is pressed; the next put does
a_unit_that_comes_begins_no_push :
    seen_after (query 1 0 60 ∷ []) (comes 1 (their_unit 60 0) ∷ puts 0 (sized_unit 1 0 (pos 1) targets.Any) ∷ [])
    ≡ Some (record {
      sends = tells_server 2 1 1 (tells.PushAck (theirs 0)) ∷ [];
      entries = enters.Arrived (server 0) (theirs 0) ∷ [];
      push = None;
      charge = 60;
      promises = [];
    }
    ∷ record {
      sends = tells_to 3 0 0 (tells.Accepted 0) ∷ tells_server 3 2 1 (tells.PushQuery (theirs 0) 60) ∷ [];
      entries = accepts 0 ∷ [];
      push = Some (asks_room (server 1) (theirs 0) 60);
      charge = 61;
      promises = [];
    }
    ∷ [])
a_unit_that_comes_begins_no_push = refl

-- a cancel gives the room back
a_cancel_gives_the_room_back :
    seen_after (query 1 0 60 ∷ query 2 1 4 ∷ []) (cancel 1 0 ∷ puts 0 (bytes 56 0) ∷ [])
    ≡ Some (record {
      sends = tells_server 3 1 1 (tells.PushAck (theirs 0)) ∷ [];
      entries = enters.Withdrawn (server 0) (theirs 0) ∷ [];
      push = None;
      charge = 4;
      promises = room 1 4 ∷ [];
    }
    ∷ record {
      sends = tells_to 4 0 0 (tells.Accepted 0) ∷ tells_server 4 2 1 (tells.PushQuery (id 0) 56) ∷ [];
      entries = accepts 0 ∷ [];
      push = Some (asks_room (server 1) (id 0) 56);
      charge = 60;
      promises = room 1 4 ∷ [];
    }
    ∷ [])
a_cancel_gives_the_room_back = refl

-- Which letters are expected.

no_room_is_asked_twice_for_a_unit : is_expected_after (query 1 0 4 ∷ []) (query 2 0 4) ≡ Some false
no_room_is_asked_twice_for_a_unit = refl

nor_for_a_unit_that_is_here :
    is_expected_after (puts 0 (bytes 4 0) ∷ []) (server_says 1 (tells.PushQuery (id 0) 4)) ≡ Some false
nor_for_a_unit_that_is_here = refl

the_server_that_was_asked_answers : is_expected_after (puts 0 pressing ∷ []) (yes 1 0) ≡ Some true
the_server_that_was_asked_answers = refl

another_does_not : is_expected_after (puts 0 pressing ∷ []) (yes 2 0) ≡ Some false
another_does_not = refl

nor_of_another_unit : is_expected_after (puts 0 pressing ∷ []) (no 1 1) ≡ Some false
nor_of_another_unit = refl

it_answers_once : is_expected_after (puts 0 pressing ∷ yes 1 0 ∷ []) (yes 1 0) ≡ Some false
it_answers_once = refl

a_query_is_not_acknowledged : is_expected_after (puts 0 pressing ∷ []) (ack 1 0) ≡ Some false
a_query_is_not_acknowledged = refl

a_unit_that_was_sent_is : is_expected_after (puts 0 pressing ∷ yes 1 0 ∷ []) (ack 1 0) ≡ Some true
a_unit_that_was_sent_is = refl

once : is_expected_after (puts 0 pressing ∷ yes 1 0 ∷ ack 1 0 ∷ []) (ack 1 0) ≡ Some false
once = refl

no_unit_comes_without_a_promise : is_expected_after [] (comes 1 (their_unit 60 0)) ≡ Some false
no_unit_comes_without_a_promise = refl

nor_a_longer_one : is_expected_after (query 1 0 59 ∷ []) (comes 1 (their_unit 60 0)) ≡ Some false
nor_a_longer_one = refl

nor_is_a_promise_taken_back_that_was_not_given : is_expected_after (query 1 0 60 ∷ []) (cancel 1 1) ≡ Some false
nor_is_a_promise_taken_back_that_was_not_given = refl

nor_one_whose_unit_has_come : is_expected_after (query 1 0 60 ∷ comes 1 (their_unit 60 0) ∷ []) (cancel 1 0) ≡ Some false
nor_one_whose_unit_has_come = refl

no_rank_pushes : is_expected_after [] (says 4 (tells.PushQuery (theirs 0) 4)) ≡ Some false
no_rank_pushes = refl
