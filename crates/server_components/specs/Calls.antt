-- What each call makes of the ranks that wait and of the wishes, and what it answers.
use Rattle.std.specs.Prelude.{ℕ, ◌==◌, Bool, false, ◌&&◌, ◌||◌, not, List, [], ◌∷◌, ◌++◌, drop, filter, find, map, Option, None, Some}
use Rattle.std.specs.Prelude.{slice_get, if◌then◌else◌}
use Rattle.std.specs.List.{list_any}
use Rattle.adlb_unit.specs.Permit.{permitted}
use Rattle.adlb_unit.specs.Ring.{others}
use Rattle.adlb_unit.specs.declared.configs.Config.{Config}
use Rattle.adlb_unit.specs.declared.names.Rank.{Rank}
use Rattle.adlb_unit.specs.declared.names.Server.{Server}
use Rattle.adlb_unit.specs.declared.names.Target.{Target}
use Rattle.adlb_unit.specs.declared.names.Target.TheVariants.{Soft}
use Rattle.adlb_unit.specs.declared.names.WorkType.{WorkType}
use Rattle.adlb_unit.specs.declared.notes.UnitNote.{UnitNote}
use Rattle.adlb_unit.specs.declared.units.Unit.{Unit}
use Rattle.work_queue.specs.Queue.{Queue}
use Rattle.work_queue.specs.declared.placing.Placed.{Placed}
use Rattle.server_components.specs.Grants.{note_of, pinned_to}
use Rattle.server_components.specs.Parked.{ParkedModel, is_by, is_idle, is_of, with_waiting, with_wishes}
use Rattle.server_components.specs.declared.steps.ReserveStep.{ReserveStep}
use Rattle.server_components.specs.declared.steps.ReserveStep.TheVariants.{Granted, Ask, Idle}
use Rattle.server_components.specs.declared.waits.Waiting.{Waiting}
use Rattle.server_components.specs.declared.wishes.Wish.{Wish}

-- Asking other servers.

-- the first of these servers is asked, the others are still to be asked
abbrev pub asking : Wish → List Server → Waiting
asking wish servers = record { wish = wish; asked = slice_get servers 0; to_ask = drop 1 servers }

-- what is done next: the server is asked; with none the rank is idle
abbrev pub step_of : Option Server → ReserveStep
step_of None = Idle
step_of (Some s) = Ask s

-- the unit is granted if there is one, otherwise the first of these servers is asked
abbrev pub step_for : Server → Option Placed → List Server → ReserveStep
step_for me (Some p) servers = Granted (note_of me p.unit)
step_for me None servers = step_of (slice_get servers 0)

-- the server is in the list
abbrev pub has_server : List Server → Server → Bool
has_server servers s = list_any (λ (t : Server). t.0 == s.0) servers

-- those of the list and this one, in ring order
abbrev pub with_server : Config → Server → List Server → Server → List Server
with_server config me servers from = filter (λ (s : Server). (s.0 == from.0) || has_server servers s) (others config me)

-- those of the list but for this one
abbrev pub without_server : List Server → Server → List Server
without_server servers from = filter (λ (s : Server). not (s.0 == from.0)) servers

-- Ranks that wait.

-- the rank waits no longer
abbrev pub gone : ParkedModel → Rank → ParkedModel
gone m rank = with_waiting m (filter (λ e. not (is_of rank e)) m.parked.waiting)

-- those for which the test is true are as f makes them
abbrev pub turned : (Waiting → Bool) → (Waiting → Waiting) → Waiting → Waiting
turned test f e = if test e then f e else e

-- those that wait, with those that pass changed
abbrev pub with_turned : ParkedModel → (Waiting → Bool) → (Waiting → Waiting) → ParkedModel
with_turned m test f = with_waiting m (map (turned test f) m.parked.waiting)

-- a rank that reserves waits last if no unit is granted to it
abbrev pub reserved : ParkedModel → Wish → Option Placed → ParkedModel
reserved m wish (Some p) = m
reserved m wish None = with_waiting m (m.parked.waiting ++ asking wish (others m.config m.me) ∷ [])

-- after an answer that there is no unit, the rank waits no longer if one is granted here; otherwise the next server is asked
abbrev pub asks_next : Waiting → Waiting
asks_next e = asking e.wish e.to_ask

-- after the answer without a unit: the rank gets one here, or its next server is asked
abbrev pub after_none : ParkedModel → Rank → Option Placed → ParkedModel
after_none m rank (Some p) = gone m rank
after_none m rank None = with_turned m (is_of rank) asks_next

-- Hints to this server.

-- the rank waits since this request
abbrev pub is_since : Rank → ℕ → Waiting → Bool
is_since rank request e = is_of rank e && (e.wish.request == request)

-- the server that hints is asked at once if the rank is idle, otherwise it is among those that are still to be asked
abbrev pub hears_of : Config → Server → Server → Waiting → Waiting
hears_of config me from e =
    if is_idle e
    then record e { asked = Some from; to_ask = without_server e.to_ask from }
    else record e { to_ask = with_server config me e.to_ask from }

-- after a hint the server is among those to be asked
abbrev pub hinted : ParkedModel → Rank → ℕ → Server → ParkedModel
hinted m rank request from = with_turned m (is_since rank request) (hears_of m.config m.me from)

-- the rank is idle since this request
abbrev pub is_idle_since : ParkedModel → Rank → ℕ → Bool
is_idle_since m rank request = list_any (λ e. is_since rank request e && is_idle e) m.parked.waiting

-- Who gets a unit that becomes free.

-- the target names this rank before others
abbrev pub is_soft_for : Target → Rank → Bool
is_soft_for (Soft first) rank = first.0 == rank.0
is_soft_for _ rank = false

-- the unit is permitted to who made the wish
abbrev pub suits : WorkType → Target → Wish → Bool
suits kind target w = permitted w.rank w.types kind target

-- the first value, or the other without it
abbrev pub or_else : {X : Type 0} → Option X → Option X → Option X
or_else (Some x) other = Some x
or_else None other = other

-- the idle rank that gets the unit: the one that its target names before others, otherwise the first to which it is permitted
abbrev pub takes : WorkType → Target → Waiting → Bool
takes kind target e = is_idle e && suits kind target e.wish

-- an idle rank takes the unit, and the target names it before others
abbrev pub takes_first : WorkType → Target → Waiting → Bool
takes_first kind target e = takes kind target e && is_soft_for target e.wish.rank

-- the idle rank that takes a unit of this type and target
abbrev pub taker : WorkType → Target → List Waiting → Option Waiting
taker kind target waiting = or_else (find (takes_first kind target) waiting) (find (takes kind target) waiting)

-- the idle rank that takes the unit
abbrev pub taker_of : Unit → ParkedModel → Option Waiting
taker_of unit m = taker unit.kind unit.target m.parked.waiting

-- a rank with its request, and with the note of the unit
abbrev pub call_of : Wish → Rank × ℕ
call_of w = (w.rank, w.request)

-- the rank, its request and the note of the unit
abbrev pub granted : Server → Unit → Waiting → Rank × ℕ × UnitNote
granted me unit e = (e.wish.rank, e.wish.request, note_of me unit)

-- the rank, if there is one, waits no longer
abbrev pub gone_if : ParkedModel → Option Waiting → ParkedModel
gone_if m None = m
gone_if m (Some e) = gone m e.wish.rank

-- and the unit is pinned to it
abbrev pub given : Option Waiting → Placed → Queue → Queue
given None p q = q
given (Some e) p q = pinned_to e.wish.rank (Some p) q

-- the first idle rank
abbrev pub first_idle : ParkedModel → Option Waiting
first_idle m = find is_idle m.parked.waiting

-- Wishes.

-- the rank has no wish
abbrev pub forgotten : ParkedModel → Rank → ParkedModel
forgotten m rank = with_wishes m (filter (λ w. not (is_by rank w)) m.parked.wishes)

-- its wish is this one, the last of all
abbrev pub wished : ParkedModel → Wish → ParkedModel
wished m wish = with_wishes m (filter (λ w. not (is_by wish.rank w)) m.parked.wishes ++ wish ∷ [])

-- a rank of another home is asked for: its wish is kept if no unit is granted to it
abbrev pub after_ask : ParkedModel → Wish → Option Placed → ParkedModel
after_ask m wish (Some p) = forgotten m wish.rank
after_ask m wish None = wished m wish

-- the wish that a free unit takes off next: that of the rank that the target names before others, otherwise the first to whose
-- rank the unit is permitted
abbrev pub suits_first : WorkType → Target → Wish → Bool
suits_first kind target w = suits kind target w && is_soft_for target w.rank

-- the wish that is taken off next
abbrev pub hints_next : WorkType → Target → List Wish → Option Wish
hints_next kind target wishes = or_else (find (suits_first kind target) wishes) (find (suits kind target) wishes)

-- without the wish that was found, if one was
abbrev pub forgotten_if : ParkedModel → Option Wish → ParkedModel
forgotten_if m None = m
forgotten_if m (Some w) = forgotten m w.rank

-- What is said of a rank that waits: its request, and the server that is unanswered; and what it wants.
abbrev pub request_of : Waiting → ℕ × Option Server
request_of e = (e.wish.request, e.asked)

-- the rank with the types that it wants
abbrev pub wants : Waiting → Rank × Option (List WorkType)
wants e = (e.wish.rank, e.wish.types)
