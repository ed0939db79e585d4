-- Checks of two servers, worked by hand. Rank 0 is at home at server 0, and rank 1 at server 1. Each server has room for 64 bytes, and is
-- pressed above 56.
use Rattle.std.proofs.Common.{◌≡◌, ℕ, pos, Bool, true, false, List, [], ◌∷◌, ◌++◌, Option, Some, None, refl, arith}
use Rattle.std.specs.Prelude.{option_and_then}
use Rattle.std.specs.List.{flat_map}
use Rattle.std.specs.Option.{option_map}
use Rattle.adlb_unit.specs.declared.actors.Actor.{Actor}
use Rattle.adlb_unit.specs.declared.actors.Actor.TheVariants as by
use Rattle.adlb_unit.specs.declared.configs.Config.{Config}
use Rattle.adlb_unit.specs.declared.letters.Sending.{Sending}
use Rattle.adlb_unit.specs.declared.messages.Message.{Message}
use Rattle.adlb_unit.specs.declared.messages.Message.TheVariants as tells
use Rattle.adlb_unit.specs.declared.messages.Why.TheVariants.{Busy}
use Rattle.adlb_unit.specs.declared.names.Target.TheVariants as targets
use Rattle.adlb_unit.specs.declared.names.UnitId.{UnitId}
use Rattle.adlb_unit.specs.declared.names.WorkType.{WorkType}
use Rattle.adlb_unit.specs.declared.notes.End.TheVariants as ends_by
use Rattle.adlb_unit.specs.declared.units.Unit.{Unit}
use Rattle.bag_ledger.specs.declared.entries.Entry.{Entry}
use Rattle.bag_ledger.specs.declared.entries.Entry.TheVariants as enters
use Rattle.exhaust_ring.specs.Ring.{Asker, token}
use Rattle.server_law.specs.Carried.{Served}
use Rattle.server_law.specs.State.{ServerModel, start}
use Rattle.server_law.proofs.AskExamples.{server_says}
use Rattle.server_law.proofs.Examples.{heard, rank, run_of, says, server, sized_unit}

abbrev two_servers : Config
two_servers = run_of 2 2 (omega arith, omega arith) (omega arith, omega arith)

-- both servers, what each has said to the other and was not heard, what was entered, and what ranks were told
record Pair : Type 0 where
  zeroth : ServerModel
  first : ServerModel
  to_zeroth : List Message
  to_first : List Message
  entered : List Entry
  told : List Message

abbrev fresh : Pair
fresh = record {
  zeroth = start two_servers (server 0);
  first = start two_servers (server 1);
  to_zeroth = [];
  to_first = [];
  entered = [];
  told = [];
}

abbrev if_to_server : Actor → Message → List Message
if_to_server (by.Server to) message = message ∷ []
if_to_server (by.Rank to) message = []

abbrev if_to_rank : Actor → Message → List Message
if_to_rank (by.Server to) message = []
if_to_rank (by.Rank to) message = message ∷ []

abbrev to_servers : List Sending → List Message
to_servers = flat_map (λ (x : Sending). if_to_server x.to x.letter.message)

abbrev to_ranks : List Sending → List Message
to_ranks = flat_map (λ (x : Sending). if_to_rank x.to x.letter.message)

-- server 0 has done this, or server 1, for which these letters are left
abbrev zeroth_did : Pair → List Message → Served → Pair
zeroth_did p left x = record {
  zeroth = x.state;
  first = p.first;
  to_zeroth = left;
  to_first = p.to_first ++ to_servers x.sends;
  entered = p.entered ++ x.entries;
  told = p.told ++ to_ranks x.sends;
}

abbrev first_did : Pair → List Message → Served → Pair
first_did p left x = record {
  zeroth = p.zeroth;
  first = x.state;
  to_zeroth = p.to_zeroth ++ to_servers x.sends;
  to_first = left;
  entered = p.entered ++ x.entries;
  told = p.told ++ to_ranks x.sends;
}

-- a rank says something to server 0, or to server 1; or one of them hears the letter that the other said first
data Event : Type 0 where
  Zeroth_is_told : ℕ → Message → Event
  First_is_told : ℕ → Message → Event
  Zeroth_hears : Event
  First_hears : Event

abbrev zeroth_hears : Pair → List Message → Option Pair
zeroth_hears p [] = None
zeroth_hears p (message ∷ left) = option_map (zeroth_did p left) (heard p.zeroth (server_says 1 message))

abbrev first_hears : Pair → List Message → Option Pair
first_hears p [] = None
first_hears p (message ∷ left) = option_map (first_did p left) (heard p.first (server_says 0 message))

abbrev happens : Pair → Event → Option Pair
happens p (Zeroth_is_told from message) = option_map (zeroth_did p p.to_zeroth) (heard p.zeroth (says from message))
happens p (First_is_told from message) = option_map (first_did p p.to_first) (heard p.first (says from message))
happens p Zeroth_hears = zeroth_hears p p.to_zeroth
happens p First_hears = first_hears p p.to_first

-- none if a letter is not expected
abbrev run : List Event → Pair → Option Pair
run [] p = Some p
run (e ∷ events) p = option_and_then (run events) (happens p e)

record Seen : Type 0 where
  to_zeroth : List Message
  to_first : List Message
  entered : List Entry
  told : List Message

abbrev seen_after : List Event → Option Seen
seen_after events =
    option_map (λ (p : Pair). record { to_zeroth = p.to_zeroth; to_first = p.to_first; entered = p.entered; told = p.told })
    (run events fresh)

-- Both ranks want units of type 3, of which there is no unit. The unit that rank 1 puts is of type 2, and is pushed to server 0.

abbrev threes : Option (List WorkType)
threes = Some (record { 0 = 3 } ∷ [])

abbrev waits : ℕ → Asker
waits n = (rank n, threes)

abbrev number : UnitId
number = record { rank = rank 1; number = 0 }

abbrev pressing : Unit
pressing = record (sized_unit 60 0 (pos 0) targets.Any) { id = number }

-- rank 0 waits and is idle, so server 0 is quiet and starts a check; the token is under way as rank 1 goes on
abbrev opening : List Event
opening =
    Zeroth_is_told 0 (tells.Reserve 0 threes) ∷ First_hears ∷ Zeroth_hears ∷ First_is_told 1 (tells.Put pressing)
    ∷ First_is_told 1 (tells.Reserve 1 threes) ∷ []

a_quiet_server_starts_a_check :
    seen_after opening
    ≡ Some (record {
      to_zeroth = tells.PushQuery number 60 ∷ tells.Ask (rank 1) 1 threes ∷ [];
      to_first = tells.Token (token 1 1 (waits 0 ∷ [])) ∷ [];
      entered = enters.Accepted (server 1) number ∷ [];
      told = tells.Accepted 0 ∷ [];
    })
a_quiet_server_starts_a_check = refl

-- that check fails, since server 1 pushes; so does the next, which server 0 starts since it was asked for room, while the unit travels
abbrev travelling : List Event
travelling = opening ++ Zeroth_hears ∷ Zeroth_hears ∷ First_hears ∷ First_hears ∷ First_hears ∷ Zeroth_hears ∷ First_hears ∷ []

while_a_unit_travels_a_check_fails :
    seen_after travelling
    ≡ Some (record {
      to_zeroth = tells.PushUnit pressing ∷ tells.Failed (token 2 1 (waits 0 ∷ [])) Busy ∷ [];
      to_first = [];
      entered = enters.Accepted (server 1) number ∷ enters.Promised (server 0) number 60 ∷ enters.Left (server 1) (server 0) number ∷ [];
      told = tells.Accepted 0 ∷ [];
    })
while_a_unit_travels_a_check_fails = refl

-- the unit has come: server 0 starts the third check, and server 1, which is quiet by then, has told it that one is wanted
abbrev come : List Event
come = travelling ++ Zeroth_hears ∷ Zeroth_hears ∷ First_hears ∷ First_hears ∷ []

abbrev moved : List Entry
moved =
    enters.Accepted (server 1) number ∷ enters.Promised (server 0) number 60 ∷ enters.Left (server 1) (server 0) number
    ∷ enters.Arrived (server 0) number ∷ []

the_token_names_who_waits :
    seen_after come
    ≡ Some (record {
      to_zeroth = tells.Notice ∷ tells.Token (token 3 1 (waits 0 ∷ waits 1 ∷ [])) ∷ [];
      to_first = [];
      entered = moved;
      told = tells.Accepted 0 ∷ [];
    })
the_token_names_who_waits = refl

-- it goes round a second time, and all work is found used up: both ranks are told by their homes
abbrev over : List Event
over = come ++ Zeroth_hears ∷ Zeroth_hears ∷ First_hears ∷ Zeroth_hears ∷ First_hears ∷ []

all_work_is_found_used_up :
    seen_after over
    ≡ Some (record {
      to_zeroth = [];
      to_first = [];
      entered = moved ++ enters.Exhausted ∷ enters.Over (rank 0) 0 ends_by.Exhausted ∷ enters.Over (rank 1) 1 ends_by.Exhausted ∷ [];
      told = tells.Accepted 0 ∷ tells.Ended 0 ends_by.Exhausted ∷ tells.Ended 1 ends_by.Exhausted ∷ [];
    })
all_work_is_found_used_up = refl

-- Both ranks finish, at each server: server 0 starts one more check, and with nobody on the list the servers are shut.

abbrev are_shut : List Event → Option (Bool × Bool)
are_shut events = option_map (λ (p : Pair). (p.zeroth.kept.shut, p.first.kept.shut)) (run events fresh)

abbrev finished : List Event
finished =
    over ++ Zeroth_is_told 0 tells.Finish ∷ First_is_told 0 tells.Finish ∷ First_is_told 1 tells.Finish ∷ Zeroth_is_told 1 tells.Finish ∷ []

the_last_finish_does_not_shut_yet : are_shut finished ≡ Some (false, false)
the_last_finish_does_not_shut_yet = refl

abbrev last_check : List Event
last_check =
    finished ++ Zeroth_hears ∷ First_hears ∷ Zeroth_hears ∷ First_hears ∷ Zeroth_hears ∷ First_hears ∷ Zeroth_hears ∷ First_hears ∷ []

its_verdict_does : are_shut last_check ≡ Some (true, true)
its_verdict_does = refl
