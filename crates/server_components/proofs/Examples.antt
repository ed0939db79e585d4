-- Runs at server 0 of three, whose ranks 0 and 3 are at home there, worked by hand.
use Rattle.std.proofs.Common.{◌≡◌, ℕ, List, [], ◌∷◌, Option, Some, None, pos, refl, arith}
use Rattle.adlb_unit.specs.Ring.{others}
use Rattle.adlb_unit.specs.declared.configs.Config.{Config}
use Rattle.adlb_unit.specs.declared.names.Rank.{Rank}
use Rattle.adlb_unit.specs.declared.names.Server.{Server}
use Rattle.adlb_unit.specs.declared.names.Target.{Target}
use Rattle.adlb_unit.specs.declared.names.Target.TheVariants.{Any, Only, Soft}
use Rattle.work_queue.specs.Queue.{Queue}
use Rattle.work_queue.specs.declared.placing.Placed.{Placed}
use Rattle.server_components.specs.Calls.{after_ask, after_none, hinted, hints_next, reserved, taker}
use Rattle.server_components.specs.Grants.{best_for}
use Rattle.server_components.specs.Parked.{ParkedModel, empty, with_waiting, with_wishes}
use Rattle.server_components.specs.declared.waits.Waiting.{Waiting}
use Rattle.server_components.specs.declared.wishes.Wish.{Wish}

abbrev rank : ℕ → Rank
rank n = record { 0 = n }

abbrev server : ℕ → Server
server n = record { 0 = n }

abbrev three : Config
three = record {
  ranks = 6;
  servers = 3;
  limit = 64;
  ranks_within = (omega arith, omega arith);
  servers_within = (omega arith, omega arith);
  limit_within = (omega arith, omega arith);
}

-- the rank wants type 5 in its call of this number
abbrev wish : ℕ → ℕ → Wish
wish n request = record { rank = rank n; request = request; types = Some (record { 0 = 5 } ∷ []) }

abbrev waits : Wish → Option Server → List Server → Waiting
waits w asked to_ask = record { wish = w; asked = asked; to_ask = to_ask }

-- those that wait at server 0
abbrev with : List Waiting → ParkedModel
with waiting = with_waiting (empty three (server 0)) waiting

abbrev free : ℕ → Target → Placed
free number target = record {
  unit = record {
    id = record { rank = rank 0; number = number };
    kind = record { 0 = 5 };
    prio = pos 0;
    target = target;
    answer = None;
    common = None;
    body = [];
  };
  pin = None;
}

abbrev queue : List Placed → Queue
queue units = record { units = units; promises = []; common = 0; arrivals = 9; limit = 64 }

-- Asking: nothing is here for rank 0, which waits; server 1 is asked, then server 2, and then the rank is idle.

abbrev asked_one : ParkedModel
asked_one = reserved (with []) (wish 0 7) (best_for (queue (free 1 (Only (rank 1)) ∷ [])) (rank 0) (wish 0 7).types)

is_asked : asked_one ≡ with (waits (wish 0 7) (Some (server 1)) (server 2 ∷ []) ∷ [])
is_asked = refl

abbrev asked_two : ParkedModel
asked_two = after_none asked_one (rank 0) None

is_asked_next : asked_two ≡ with (waits (wish 0 7) (Some (server 2)) [] ∷ [])
is_asked_next = refl

is_idle_then : after_none asked_two (rank 0) None ≡ with (waits (wish 0 7) None [] ∷ [])
is_idle_then = refl

-- the server of rank 4 asks the next one first
from_one : others three (server 1) ≡ server 2 ∷ server 0 ∷ []
from_one = refl

-- Hints: while server 2 is asked, both may be asked again, in ring order; an idle rank has one asked at once.

abbrev hinted_twice : ParkedModel
hinted_twice = hinted (hinted asked_two (rank 0) 7 (server 2)) (rank 0) 7 (server 1)

is_hinted : hinted_twice ≡ with (waits (wish 0 7) (Some (server 2)) (server 1 ∷ server 2 ∷ []) ∷ [])
is_hinted = refl

is_asked_at_once : hinted (with (waits (wish 0 7) None [] ∷ [])) (rank 0) 7 (server 2) ≡ with (waits (wish 0 7) (Some (server 2)) [] ∷ [])
is_asked_at_once = refl

-- of an earlier request nothing is heard
is_too_late : hinted asked_two (rank 0) 6 (server 1) ≡ asked_two
is_too_late = refl

-- A unit becomes free: rank 0 is asked for, ranks 3 and 6 are idle.

abbrev two_idle : List Waiting
two_idle = waits (wish 0 7) (Some (server 2)) [] ∷ waits (wish 3 4) None [] ∷ waits (wish 6 5) None [] ∷ []

is_first_idle : taker (record { 0 = 5 }) Any two_idle ≡ Some (waits (wish 3 4) None [])
is_first_idle = refl

is_soft : taker (record { 0 = 5 }) (Soft (rank 6)) two_idle ≡ Some (waits (wish 6 5) None [])
is_soft = refl

-- a rank that is asked for elsewhere does not get what is for it before others
is_soft_but_asked : taker (record { 0 = 5 }) (Soft (rank 0)) two_idle ≡ Some (waits (wish 3 4) None [])
is_soft_but_asked = refl

is_nobody : (taker (record { 0 = 5 }) (Only (rank 0)) two_idle ≡ None) × (taker (record { 0 = 4 }) Any two_idle ≡ None)
is_nobody = (refl, refl)

-- Wishes: a second one of rank 1 comes last, and goes when a unit is granted to it.

abbrev wishes_of : List Wish → ParkedModel
wishes_of wishes = with_wishes (with []) wishes

is_last : after_ask (wishes_of (wish 1 4 ∷ wish 2 3 ∷ [])) (wish 1 5) None ≡ wishes_of (wish 2 3 ∷ wish 1 5 ∷ [])
is_last = refl

is_forgotten : after_ask (wishes_of (wish 1 4 ∷ wish 2 3 ∷ [])) (wish 1 5) (Some (free 1 Any)) ≡ wishes_of (wish 2 3 ∷ [])
is_forgotten = refl

is_next : (hints_next (record { 0 = 5 }) Any (wish 1 4 ∷ wish 2 3 ∷ []) ≡ Some (wish 1 4))
    × (hints_next (record { 0 = 5 }) (Soft (rank 2)) (wish 1 4 ∷ wish 2 3 ∷ []) ≡ Some (wish 2 3))
is_next = (refl, refl)
