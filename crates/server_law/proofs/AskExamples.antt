-- Steps of server 0 of three, worked by hand: other servers are asked for its ranks, ask it for theirs, and hint. Of six ranks, 0 and 3
-- are at home here, 1 and 4 at server 1, 2 and 5 at server 2.
use Rattle.std.proofs.Common.{◌≡◌, ℕ, Bool, true, false, List, [], ◌∷◌, Option, Some, None, refl, arith}
use Rattle.std.specs.Prelude.{is_some, option_and_then}
use Rattle.std.specs.Option.{option_map}
use Rattle.adlb_unit.specs.Links.{sending}
use Rattle.adlb_unit.specs.declared.actors.Actor.TheVariants as by
use Rattle.adlb_unit.specs.declared.configs.Config.{Config}
use Rattle.adlb_unit.specs.declared.letters.Sending.{Sending}
use Rattle.adlb_unit.specs.declared.messages.Message.{Message}
use Rattle.adlb_unit.specs.declared.messages.Message.TheVariants as tells
use Rattle.adlb_unit.specs.declared.names.Target.TheVariants as targets
use Rattle.adlb_unit.specs.declared.notes.End.TheVariants as ends_by
use Rattle.adlb_unit.specs.declared.units.Unit.{Unit}
use Rattle.bag_ledger.specs.Runs.{note_of}
use Rattle.bag_ledger.specs.declared.entries.Entry.{Entry}
use Rattle.bag_ledger.specs.declared.entries.Entry.TheVariants as enters
use Rattle.server_components.specs.declared.waits.Waiting.{Waiting}
use Rattle.server_components.specs.declared.wishes.Wish.{Wish}
use Rattle.server_law.specs.Carried.{Served}
use Rattle.server_law.specs.State.{ServerModel, awaiting, idle, start}
use Rattle.server_law.proofs.Examples.{Said, accepts, grant, grants, heard, puts, rank, reserves, run_of, says, server, tells_to, unit}

-- six ranks and three servers
abbrev pub three_servers : Config
three_servers = run_of 6 3 (omega arith, omega arith) (omega arith, omega arith)

-- server 0 at the start
abbrev pub fresh : ServerModel
fresh = start three_servers (server 0)

-- what another server says, and what server 0 says to it: by the event's stamp, and the place among its letters there
abbrev pub server_says : ℕ → Message → Said
server_says from message = record { from = by.Server (server from); stamp = 0; message = message }

-- a letter of server 0 to another server
abbrev pub tells_server : ℕ → ℕ → ℕ → Message → Sending
tells_server stamp place to message = sending stamp place (by.Server (server to)) message

-- what is seen of an event: also who waits how, and what is wished
record Seen : Type 0 where
  sends : List Sending
  entries : List Entry
  waiting : List Waiting
  wishes : List Wish

abbrev seen : Served → Seen
seen x = record {
  sends = x.sends;
  entries = x.entries;
  waiting = x.state.kept.parked.waiting;
  wishes = x.state.kept.parked.wishes;
}

-- up to the first letter that is not expected
abbrev further : (ServerModel → List Seen) → Option Served → List Seen
further later None = []
further later (Some x) = seen x ∷ later x.state

abbrev events : ServerModel → List Said → List Seen
events s [] = []
events s (x ∷ xs) = further (λ t. events t xs) (heard s x)

-- the server after these letters, if each is expected; and whether one more is expected then
abbrev after : ServerModel → List Said → Option ServerModel
after s [] = Some s
after s (x ∷ xs) = option_and_then (λ (y : Served). after y.state xs) (heard s x)

abbrev is_expected_after : List Said → Said → Option Bool
is_expected_after letters x = option_map (λ s. is_some (heard s x)) (after fresh letters)

-- wishes, and units of type 2
abbrev wants : ℕ → ℕ → Wish
wants n request = record { rank = rank n; request = request; types = None }

abbrev wants_threes : ℕ → ℕ → Wish
wants_threes n request = record { rank = rank n; request = request; types = Some (record { 0 = 3 } ∷ []) }

abbrev asks : ℕ → Wish → Said
asks from w = server_says from (tells.Ask w.rank w.request w.types)

abbrev has_none : ℕ → ℕ → ℕ → Said
has_none from n request = server_says from (tells.AskNone (rank n) request)

abbrev hints : ℕ → ℕ → ℕ → Said
hints from n request = server_says from (tells.Hint (rank n) request)

abbrev for_any : ℕ → Unit
for_any number = unit number targets.Any

-- Server 0 is asked for a rank of another home.

-- there is a unit, which is pinned to it
an_ask_is_granted :
    events fresh (puts 0 (for_any 0) ∷ asks 1 (wants 1 7) ∷ [])
    ≡ record { sends = tells_to 1 0 0 (tells.Accepted 0) ∷ []; entries = accepts 0 ∷ []; waiting = []; wishes = [] }
    ∷ record {
      sends = tells_server 2 0 1 (tells.AskGrant (rank 1) 7 (note_of (server 0) (for_any 0))) ∷ [];
      entries = grants 1 7 0 ∷ [];
      waiting = [];
      wishes = [];
    }
    ∷ []
an_ask_is_granted = refl

-- there is no unit: the wish is kept in place of an earlier one of the rank, after those of others
a_wish_takes_the_place_of_an_earlier_one :
    events fresh (asks 1 (wants_threes 1 7) ∷ asks 2 (wants 2 3) ∷ asks 1 (wants 1 9) ∷ [])
    ≡ record {
      sends = tells_server 1 0 1 (tells.AskNone (rank 1) 7) ∷ [];
      entries = [];
      waiting = [];
      wishes = wants_threes 1 7 ∷ [];
    }
    ∷ record {
      sends = tells_server 2 0 2 (tells.AskNone (rank 2) 3) ∷ [];
      entries = [];
      waiting = [];
      wishes = wants_threes 1 7 ∷ wants 2 3 ∷ [];
    }
    ∷ record {
      sends = tells_server 3 1 1 (tells.AskNone (rank 1) 9) ∷ [];
      entries = [];
      waiting = [];
      wishes = wants 2 3 ∷ wants 1 9 ∷ [];
    }
    ∷ []
a_wish_takes_the_place_of_an_earlier_one = refl

-- a wish goes where a unit is granted to its rank
a_grant_takes_the_wish_off :
    option_map (λ (s : ServerModel). s.kept.parked.wishes)
    (after fresh (asks 1 (wants_threes 1 7) ∷ puts 0 (for_any 0) ∷ asks 1 (wants 1 9) ∷ []))
    ≡ Some []
a_grant_takes_the_wish_off = refl

-- server 0 where this is known
abbrev knows : Bool → Bool → ServerModel → ServerModel
knows is_done used_up s = record s { kept = record s.kept { done = is_done; exhausted = used_up } }

abbrev with_unit_known : Bool → Bool → Option ServerModel
with_unit_known is_done used_up = option_map (knows is_done used_up) (after fresh (puts 0 (for_any 0) ∷ []))

abbrev events_then : Option ServerModel → List Said → List Seen
events_then None letters = []
events_then (Some s) letters = events s letters

where_the_problem_is_done_none_is_given :
    events_then (with_unit_known true false) (asks 1 (wants 1 7) ∷ [])
    ≡ record {
      sends = tells_server 2 0 1 (tells.AskNone (rank 1) 7) ∷ [];
      entries = [];
      waiting = [];
      wishes = wants 1 7 ∷ [];
    }
    ∷ []
where_the_problem_is_done_none_is_given = refl

-- Server 0 asks for its rank 0: the servers after it, one after the other, and then the rank is idle.

the_others_are_asked_in_turn :
    events fresh (reserves 0 4 ∷ has_none 1 0 4 ∷ has_none 2 0 4 ∷ [])
    ≡ record {
      sends = tells_server 1 0 1 (tells.Ask (rank 0) 4 None) ∷ [];
      entries = [];
      waiting = awaiting (wants 0 4) (server 1) (server 2 ∷ []) ∷ [];
      wishes = [];
    }
    ∷ record {
      sends = tells_server 2 0 2 (tells.Ask (rank 0) 4 None) ∷ [];
      entries = [];
      waiting = awaiting (wants 0 4) (server 2) [] ∷ [];
      wishes = [];
    }
    ∷ record { sends = []; entries = []; waiting = idle (wants 0 4) [] ∷ []; wishes = [] }
    ∷ []
the_others_are_asked_in_turn = refl

-- one of them has pinned a unit to it, and the rank hears it
abbrev elsewhere : Unit
elsewhere = unit 5 (targets.Only (rank 0))

a_grant_is_passed_on :
    events fresh (reserves 0 4 ∷ has_none 1 0 4 ∷ server_says 2 (tells.AskGrant (rank 0) 4 (note_of (server 2) elsewhere)) ∷ [])
    ≡ record {
      sends = tells_server 1 0 1 (tells.Ask (rank 0) 4 None) ∷ [];
      entries = [];
      waiting = awaiting (wants 0 4) (server 1) (server 2 ∷ []) ∷ [];
      wishes = [];
    }
    ∷ record {
      sends = tells_server 2 0 2 (tells.Ask (rank 0) 4 None) ∷ [];
      entries = [];
      waiting = awaiting (wants 0 4) (server 2) [] ∷ [];
      wishes = [];
    }
    ∷ record {
      sends = tells_to 3 0 0 (tells.Grant 4 (note_of (server 2) elsewhere)) ∷ [];
      entries = [];
      waiting = [];
      wishes = [];
    }
    ∷ []
a_grant_is_passed_on = refl

-- a unit that comes meanwhile is left until the server that was asked has none, and then goes to the rank
a_unit_that_came_meanwhile_is_found :
    events fresh (reserves 0 4 ∷ puts 0 (for_any 0) ∷ has_none 1 0 4 ∷ [])
    ≡ record {
      sends = tells_server 1 0 1 (tells.Ask (rank 0) 4 None) ∷ [];
      entries = [];
      waiting = awaiting (wants 0 4) (server 1) (server 2 ∷ []) ∷ [];
      wishes = [];
    }
    ∷ record {
      sends = tells_to 2 0 0 (tells.Accepted 0) ∷ [];
      entries = accepts 0 ∷ [];
      waiting = awaiting (wants 0 4) (server 1) (server 2 ∷ []) ∷ [];
      wishes = [];
    }
    ∷ record { sends = tells_to 3 1 0 (grant 4 (for_any 0)) ∷ []; entries = grants 0 4 0 ∷ []; waiting = []; wishes = [] }
    ∷ []
a_unit_that_came_meanwhile_is_found = refl

-- where an end is known by then, the rank is told it, even if there is a unit
abbrev asked_known : Bool → Bool → Option ServerModel
asked_known is_done used_up = option_map (knows is_done used_up) (after fresh (reserves 0 4 ∷ puts 0 (for_any 0) ∷ []))

where_all_work_is_used_up_the_rank_is_told :
    events_then (asked_known false true) (has_none 1 0 4 ∷ [])
    ≡ record {
      sends = tells_to 3 1 0 (tells.Ended 4 ends_by.Exhausted) ∷ [];
      entries = enters.Over (rank 0) 4 ends_by.Exhausted ∷ [];
      waiting = [];
      wishes = [];
    }
    ∷ []
where_all_work_is_used_up_the_rank_is_told = refl

where_the_problem_is_done_the_rank_is_told :
    events_then (asked_known true true) (has_none 1 0 4 ∷ [])
    ≡ record {
      sends = tells_to 3 1 0 (tells.Ended 4 ends_by.NoMoreWork) ∷ [];
      entries = enters.Over (rank 0) 4 ends_by.NoMoreWork ∷ [];
      waiting = [];
      wishes = [];
    }
    ∷ []
where_the_problem_is_done_the_rank_is_told = refl

-- Another server hints that it has a unit by now.

-- ranks 0 and 3 wait, and are idle
abbrev both_idle : List Said
both_idle = reserves 0 4 ∷ has_none 1 0 4 ∷ has_none 2 0 4 ∷ reserves 3 0 ∷ has_none 1 3 0 ∷ has_none 2 3 0 ∷ []

the_server_is_asked_at_once_for_an_idle_rank :
    events_then (after fresh both_idle) (hints 2 3 0 ∷ [])
    ≡ record {
      sends = tells_server 7 2 2 (tells.Ask (rank 3) 0 None) ∷ [];
      entries = [];
      waiting = idle (wants 0 4) [] ∷ awaiting (wants 3 0) (server 2) [] ∷ [];
      wishes = [];
    }
    ∷ []
the_server_is_asked_at_once_for_an_idle_rank = refl

-- while one is asked, it is among those that are still to be asked, once, in their order
abbrev waiting_after : List Said → Option (List Waiting)
waiting_after letters = option_map (λ (s : ServerModel). s.kept.parked.waiting) (after fresh letters)

a_server_that_hints_is_to_be_asked_later :
    waiting_after (reserves 0 4 ∷ has_none 1 0 4 ∷ hints 1 0 4 ∷ []) ≡ Some (awaiting (wants 0 4) (server 2) (server 1 ∷ []) ∷ [])
a_server_that_hints_is_to_be_asked_later = refl

a_server_is_to_be_asked_once :
    waiting_after (reserves 0 4 ∷ hints 2 0 4 ∷ hints 1 0 4 ∷ [])
    ≡ Some (awaiting (wants 0 4) (server 1) (server 1 ∷ server 2 ∷ []) ∷ [])
a_server_is_to_be_asked_once = refl

-- of an earlier call of the rank, or of one that does not wait, it comes too late
abbrev nothing_but : List Waiting → List Seen
nothing_but waiting = record { sends = []; entries = []; waiting = waiting; wishes = [] } ∷ []

a_hint_of_an_earlier_call_comes_too_late :
    events_then (after fresh both_idle) (hints 2 3 1 ∷ []) ≡ nothing_but (idle (wants 0 4) [] ∷ idle (wants 3 0) [] ∷ [])
a_hint_of_an_earlier_call_comes_too_late = refl

a_hint_of_one_that_does_not_wait_comes_too_late : events fresh (hints 2 3 0 ∷ []) ≡ nothing_but []
a_hint_of_one_that_does_not_wait_comes_too_late = refl

-- A unit comes.

-- it goes to the rank that its target names before others, though another waits longer
a_unit_goes_to_the_first_rank_of_its_target :
    events_then (after fresh both_idle) (puts 0 (unit 6 (targets.Soft (rank 3))) ∷ [])
    ≡ record {
      sends = tells_to 7 0 0 (tells.Accepted 6) ∷ tells_to 7 0 3 (grant 0 (unit 6 (targets.Soft (rank 3)))) ∷ [];
      entries = accepts 6 ∷ grants 3 0 6 ∷ [];
      waiting = idle (wants 0 4) [] ∷ [];
      wishes = [];
    }
    ∷ []
a_unit_goes_to_the_first_rank_of_its_target = refl

-- where nobody waits that is idle, the homes of ranks whose wishes it takes off are told. First comes the rank that its target names
-- before others, then each in its order. A wish of other types stays
abbrev wished : List Said
wished = asks 1 (wants 1 7) ∷ asks 2 (wants_threes 2 3) ∷ asks 1 (wants 4 5) ∷ asks 2 (wants 5 6) ∷ reserves 0 4 ∷ []

each_home_is_told_whose_wish_a_unit_takes_off :
    events_then (after fresh wished) (puts 0 (unit 5 (targets.Soft (rank 4))) ∷ [])
    ≡ record {
      sends = tells_to 6 0 0 (tells.Accepted 5) ∷ tells_server 6 3 1 (tells.Hint (rank 4) 5) ∷ tells_server 6 4 1 (tells.Hint (rank 1) 7)
          ∷ tells_server 6 2 2 (tells.Hint (rank 5) 6) ∷ [];
      entries = accepts 5 ∷ [];
      waiting = awaiting (wants 0 4) (server 1) (server 2 ∷ []) ∷ [];
      wishes = wants_threes 2 3 ∷ [];
    }
    ∷ []
each_home_is_told_whose_wish_a_unit_takes_off = refl

-- a unit that an idle rank gets takes no wish off
who_waits_here_comes_before_wishes :
    events_then (after fresh (asks 1 (wants 1 7) ∷ both_idle)) (puts 0 (unit 6 (targets.Soft (rank 1))) ∷ [])
    ≡ record {
      sends = tells_to 8 0 0 (tells.Accepted 6) ∷ tells_to 8 1 0 (grant 4 (unit 6 (targets.Soft (rank 1)))) ∷ [];
      entries = accepts 6 ∷ grants 0 4 6 ∷ [];
      waiting = idle (wants 3 0) [] ∷ [];
      wishes = wants 1 7 ∷ [];
    }
    ∷ []
who_waits_here_comes_before_wishes = refl

-- Which letters are expected.

an_ask_of_another_home_is_expected : is_expected_after [] (asks 1 (wants 4 0)) ≡ Some true
an_ask_of_another_home_is_expected = refl

an_ask_for_a_rank_of_a_third_home_is_not : is_expected_after [] (asks 1 (wants 2 0)) ≡ Some false
an_ask_for_a_rank_of_a_third_home_is_not = refl

nor_for_a_rank_beyond : is_expected_after [] (asks 1 (wants 7 0)) ≡ Some false
nor_for_a_rank_beyond = refl

no_server_writes_to_itself : is_expected_after [] (asks 0 (wants 3 0)) ≡ Some false
no_server_writes_to_itself = refl

a_server_beyond_is_not_expected : is_expected_after [] (hints 3 0 4) ≡ Some false
a_server_beyond_is_not_expected = refl

no_rank_asks : is_expected_after [] (says 1 (tells.Ask (rank 1) 0 None)) ≡ Some false
no_rank_asks = refl

the_server_that_was_asked_answers : is_expected_after (reserves 0 4 ∷ []) (has_none 1 0 4) ≡ Some true
the_server_that_was_asked_answers = refl

another_does_not : is_expected_after (reserves 0 4 ∷ []) (has_none 2 0 4) ≡ Some false
another_does_not = refl

nor_about_another_call : is_expected_after (reserves 0 4 ∷ []) (has_none 1 0 5) ≡ Some false
nor_about_another_call = refl

nor_about_another_rank : is_expected_after (reserves 0 4 ∷ []) (has_none 1 3 4) ≡ Some false
nor_about_another_rank = refl

it_answers_once : is_expected_after (reserves 0 4 ∷ has_none 1 0 4 ∷ []) (has_none 1 0 4) ≡ Some false
it_answers_once = refl

it_may_grant :
    is_expected_after (reserves 0 4 ∷ []) (server_says 1 (tells.AskGrant (rank 0) 4 (note_of (server 1) elsewhere))) ≡ Some true
it_may_grant = refl

another_may_not :
    is_expected_after (reserves 0 4 ∷ []) (server_says 2 (tells.AskGrant (rank 0) 4 (note_of (server 2) elsewhere))) ≡ Some false
another_may_not = refl

a_hint_for_a_rank_of_another_home_is_not_expected : is_expected_after [] (hints 2 1 0) ≡ Some false
a_hint_for_a_rank_of_another_home_is_not_expected = refl

nor_is_a_hint_for_a_rank_beyond : is_expected_after [] (hints 2 6 0) ≡ Some false
nor_is_a_hint_for_a_rank_beyond = refl
