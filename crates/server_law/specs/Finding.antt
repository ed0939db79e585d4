-- What rules look up: units of the queue, and ranks that wait.
use Rattle.std.specs.Prelude.{ℕ, ◌+◌, ◌==◌, nat_lt, Bool, false, ◌&&◌, List, [], ◌∷◌, Option, None, Some, is_none, if◌then◌else◌}
use Rattle.std.specs.List.{list_any}
use Rattle.adlb_unit.specs.Ids.{same_unit}
use Rattle.adlb_unit.specs.declared.names.Rank.{Rank}
use Rattle.adlb_unit.specs.declared.names.Server.{Server}
use Rattle.adlb_unit.specs.declared.names.UnitId.{UnitId}
use Rattle.adlb_unit.specs.declared.units.Unit.{Unit}
use Rattle.work_queue.specs.Queue.{Promise, Queue, charge_of, id_of}
use Rattle.work_queue.specs.declared.placing.Placed.{Placed}
use Rattle.server_law.specs.Acts.{Around}
use Rattle.server_components.specs.Calls.{is_since, is_soft_for, or_else, suits}
use Rattle.server_components.specs.Grants.{best_for as best_at}
use Rattle.server_components.specs.Parked.{is_idle}
use Rattle.server_components.specs.declared.waits.Waiting.{Waiting}
use Rattle.server_components.specs.declared.wishes.Wish.{Wish}
use Rattle.server_law.specs.State.{Kept}

-- Units.

-- some unit of the list has the id
abbrev pub has_unit : UnitId → List Placed → Bool
has_unit id units = list_any (λ p. same_unit (id_of p) id) units

-- some promise of the list is for the id
abbrev pub has_promise : UnitId → List Promise → Bool
has_promise id promises = list_any (λ p. same_unit p.id id) promises

-- the pin is to the rank
abbrev pub is_pin : Option Rank → Rank → Bool
is_pin None rank = false
is_pin (Some to) rank = to.0 == rank.0

-- the unit has the id, and is pinned to the rank
abbrev pub is_pinned_as : UnitId → Rank → Placed → Bool
is_pinned_as id rank p = same_unit (id_of p) id && is_pin p.pin rank

-- the unit has the id, and is free
abbrev pub is_free_as : UnitId → Placed → Bool
is_free_as id p = same_unit (id_of p) id && is_none p.pin

-- the best free unit for the wish
abbrev pub best_for : Kept → Wish → Option Placed
best_for k wish = best_at k.queue wish.rank wish.types

-- this number of bytes more would go beyond the limit
abbrev pub exceeds : Queue → ℕ → Bool
exceeds queue n = nat_lt queue.limit (charge_of queue + n)

-- the unit is permitted to who made the wish
abbrev pub permits : Unit → Wish → Bool
permits unit wish = suits unit.kind unit.target wish

-- Ranks that wait.

-- one of them, with those round about
pub record Place : Type 0 where
  pub at : Around
  pub here : Waiting

-- a place in a list with one element more before it
abbrev pub behind_one : Waiting → Option Place → Option Place
behind_one e None = None
behind_one e (Some p) = Some (record p { at = record p.at { before = e ∷ p.at.before } })

-- the first for which the test is true
abbrev pub place_in : (Waiting → Bool) → List Waiting → Option Place
place_in test [] = None
place_in test (e ∷ waiting) =
    if test e then Some (record { at = record { before = []; behind = waiting }; here = e }) else behind_one e (place_in test waiting)

-- an idle rank to which the unit is permitted
abbrev pub is_idle_for : Unit → Waiting → Bool
is_idle_for unit e = is_idle e && permits unit e.wish

-- an idle rank to which it is permitted, and which its target names before others
abbrev pub is_idle_first : Unit → Waiting → Bool
is_idle_first unit e = is_idle_for unit e && is_soft_for unit.target e.wish.rank

-- the idle rank that gets the unit: the one that its target names before others, else the first of those that it is permitted to
abbrev pub taker : Unit → List Waiting → Option Place
taker unit waiting = or_else (place_in (is_idle_first unit) waiting) (place_in (is_idle_for unit) waiting)

-- the server that was asked and has not answered is this one
abbrev pub is_asked_at : Option Server → Server → Bool
is_asked_at None from = false
is_asked_at (Some asked) from = asked.0 == from.0

-- it was asked for the rank in the call of this number
abbrev pub has_asked : Server → Rank → ℕ → Waiting → Bool
has_asked from rank request e = is_since rank request e && is_asked_at e.asked from
