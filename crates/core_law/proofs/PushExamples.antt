-- Small runs with a push, by computation: two ranks and two servers, each server with room for 64 bytes.
use Rattle.std.specs.List.{range_with_len}
use Rattle.std.specs.Option.{option_map}
use Rattle.std.specs.Prelude.{take}
use Rattle.std.proofs.Common.{List, None, Option, Some, [], length, map, pos, refl, replicate, ℕ, ◌++◌, ◌+◌, ◌∷◌, ◌≡◌}
use Rattle.adlb_unit.specs.declared.actors.Actor.{Actor}
use Rattle.adlb_unit.specs.declared.messages.Message.{Message}
use Rattle.adlb_unit.specs.declared.names.Target.TheVariants.{Any}
use Rattle.bag_ledger.specs.declared.entries.Call.TheVariants as calls_to
use Rattle.bag_ledger.specs.declared.entries.Entry.TheVariants as enters
use Rattle.bag_ledger.specs.declared.entries.Entry.{Entry}
use Rattle.work_queue.specs.Queue.{charge_of}
use Rattle.server_components.specs.declared.standing.StandingPush.{StandingPush}
use Rattle.rank_client.specs.Calls.{is_fetched, is_granted}
use Rattle.server_law.specs.State.{ServerModel}
use Rattle.core_run.specs.Runs.{run}
use Rattle.core_run.specs.World.{World, post, start}
use Rattle.core_run.specs.declared.events.Event.TheVariants as occurs
use Rattle.core_run.specs.declared.events.Event.{Event}
use Rattle.core_law.specs.Measures.{links_weight}
use Rattle.core_law.specs.Pushed.{letters_of}
use Rattle.core_law.specs.Pushes.{promised_letter, push_letter, travels_letter}
use Rattle.core_law.proofs.Examples.{asks, brings, hears, illegal_from, ledger_after, rank, reserves, server, two_and_two, unit}

-- a rank puts a body of this length, of type 1, for any rank
abbrev puts_bytes : ℕ → ℕ → Event
puts_bytes number size = occurs.Call (rank number) (calls_to.Put (record { 0 = 1 }) (pos 0) Any None (replicate size 7))

abbrev putting_bytes : ℕ → ℕ → Entry
putting_bytes number size = enters.Putting (rank number) 0 (record { 0 = 1 }) (pos 0) Any None (replicate size 7)

-- Rank 0 puts 60 bytes at server 0, which is pressed then and asks server 1 for room; that promises it.
abbrev room_is_promised : List Event
room_is_promised = puts_bytes 0 60 ∷ asks 0 0 ∷ hears 0 0 ∷ brings 0 1 ∷ []

abbrev promising : List Entry
promising = putting_bytes 0 60 ∷ enters.Accepted (server 0) (unit 0 0) ∷ enters.Promised (server 1) (unit 0 0) 60 ∷ []

-- The promise comes back, the unit goes, arrives and is acknowledged; rank 1 reserves it at its home.
abbrev unit_goes : List Event
unit_goes = room_is_promised ++ brings 1 0 ∷ brings 0 1 ∷ brings 1 0 ∷ []

unit_is_moved : ledger_after two_and_two (unit_goes ++ reserves 1 ∷ asks 1 1 ∷ hears 1 1 ∷ [])
    ≡ Some (
    promising
    ++ enters.Left (server 0) (server 1) (unit 0 0) ∷ enters.Arrived (server 1) (unit 0 0) ∷ enters.Asked (rank 1) 0 None
    ∷ enters.Granted (server 1) (rank 1) 0 (unit 0 0) ∷ [])
unfolding post is_granted is_fetched
unit_is_moved = refl

-- a weight of letters at each moment
abbrev letters_along : (Actor → Actor → Message → ℕ) → List Event → List (Option ℕ)
letters_along f events =
    map (λ n. option_map (λ (w : World). links_weight w.config (letters_of f) w.links) (run (start two_and_two) (take n events)))
    (range_with_len 0 (length events + 1))

-- one letter of the push is under way until its acknowledgement has come
one_letter_pushes : letters_along (push_letter (server 0)) unit_goes
    ≡ Some 0 ∷ Some 0 ∷ Some 1 ∷ Some 1 ∷ Some 1 ∷ Some 1 ∷ Some 1 ∷ Some 0 ∷ []
unfolding post is_granted is_fetched
one_letter_pushes = refl

-- one of promised room while room is promised, and one that brings the unit while it is between the servers
one_letter_promises : letters_along (promised_letter (unit 0 0)) unit_goes
    ≡ Some 0 ∷ Some 0 ∷ Some 0 ∷ Some 0 ∷ Some 1 ∷ Some 1 ∷ Some 0 ∷ Some 0 ∷ []
unfolding post is_granted is_fetched
one_letter_promises = refl

one_letter_travels : letters_along (travels_letter (unit 0 0)) unit_goes
    ≡ Some 0 ∷ Some 0 ∷ Some 0 ∷ Some 0 ∷ Some 0 ∷ Some 1 ∷ Some 0 ∷ Some 0 ∷ []
unfolding post is_granted is_fetched
one_letter_travels = refl

-- Before the promise comes back the unit is granted to rank 0, so a cancel goes. A put of 65 bytes by rank 1 shows the charges.
abbrev push_is_cancelled : List Event
push_is_cancelled = room_is_promised ++ reserves 0 ∷ asks 0 0 ∷ hears 0 0 ∷ brings 1 0 ∷ brings 0 1 ∷ brings 1 0 ∷ []

abbrev goes_round : List Event
goes_round = puts_bytes 1 65 ∷ asks 1 1 ∷ hears 1 1 ∷ asks 1 0 ∷ hears 1 0 ∷ []

promise_is_withdrawn : ledger_after two_and_two (push_is_cancelled ++ goes_round)
    ≡ Some (
    promising
    ++ enters.Asked (rank 0) 1 None ∷ enters.Granted (server 0) (rank 0) 1 (unit 0 0) ∷ enters.Withdrawn (server 1) (unit 0 0)
    ∷ putting_bytes 1 65 ∷ enters.Refused (server 1) (unit 1 0) 0 ∷ enters.Refused (server 0) (unit 1 0) 60
    ∷ enters.Rejected (rank 1) 0 ∷ [])
unfolding post is_granted is_fetched
promise_is_withdrawn = refl

-- the cancel is a letter of promised room; none brings the unit, which was never between servers
cancel_keeps_room : letters_along (promised_letter (unit 0 0)) push_is_cancelled
    ≡ Some 0 ∷ Some 0 ∷ Some 0 ∷ Some 0 ∷ Some 1 ∷ Some 1 ∷ Some 1 ∷ Some 1 ∷ Some 1 ∷ Some 0 ∷ Some 0 ∷ []
unfolding post is_granted is_fetched
cancel_keeps_room = refl

none_travels : letters_along (travels_letter (unit 0 0)) push_is_cancelled ≡ replicate 11 (Some 0)
unfolding post is_granted is_fetched
none_travels = refl

-- no push stands at the end, and the servers are charged with 60 bytes and none
nothing_stands : option_map (λ (w : World). map {B = Option StandingPush × ℕ} (λ (s : ServerModel).
    (s.kept.pushing.push, charge_of s.kept.queue)) w.servers) (run (start two_and_two) push_is_cancelled)
    ≡ Some ((None, 60) ∷ (None, 0) ∷ [])
unfolding post is_granted is_fetched
nothing_stands = refl

-- Both ledgers are legal. Without the entry by which the unit leaves its server, its arrival at the other would be no step.

unit_stays : illegal_from two_and_two (promising ++ enters.Arrived (server 1) (unit 0 0) ∷ []) ≡ Some 3
unfolding post is_granted is_fetched
unit_stays = refl

legal_as_it_goes : option_map (λ (w : World). illegal_from w.config w.ledger) (run (start two_and_two) unit_goes) ≡ Some None
unfolding post is_granted is_fetched
legal_as_it_goes = refl

legal_as_cancelled : option_map (λ (w : World). illegal_from w.config w.ledger)
    (run (start two_and_two) (push_is_cancelled ++ goes_round)) ≡ Some None
unfolding post is_granted is_fetched
legal_as_cancelled = refl
