-- The rule of Put.
use Rattle.std.specs.Prelude.{◌==◌, nat_le, Bool, true, false, ◌&&◌, not, List, [], ◌∷◌, length, find, Option, None, Some, if◌then◌else◌}
use Rattle.adlb_unit.specs.Limits.{body_limit}
use Rattle.adlb_unit.specs.Targets.{in_ranks}
use Rattle.adlb_unit.specs.declared.names.Rank.{Rank}
use Rattle.adlb_unit.specs.declared.names.UnitId.{UnitId}
use Rattle.adlb_unit.specs.declared.notes.End.TheVariants as ends_by
use Rattle.adlb_unit.specs.declared.units.Unit.{Unit}
use Rattle.work_queue.specs.Queue.{Queue}
use Rattle.work_queue.specs.declared.placing.Placed.{Placed}
use Rattle.server_law.specs.Acts.{Act, Accepts, Ends_put, Gives, Refuses}
use Rattle.server_law.specs.Finding.{Place, exceeds, has_promise, has_unit, is_free_as, taker}
use Rattle.server_law.specs.Hints.{hint_all}
use Rattle.server_law.specs.Plan.{Decider, Plan, plan}
use Rattle.server_law.specs.Presses.{presses}
use Rattle.server_law.specs.State.{Kept, ServerModel}

-- the unit is the sender's. No unit and no promise of its id is here. Its body is no longer than it may be. A rank that its target
-- names is in the run
abbrev pub expects_put : ServerModel → Rank → Unit → Bool
expects_put s from unit =
    (unit.id.rank.0 == from.0) && not (has_unit unit.id s.kept.queue.units) && not (has_promise unit.id s.kept.queue.promises)
    && nat_le (length unit.body) body_limit && in_ranks s.config unit.target

-- there is no room for the unit
abbrev pub is_over : Queue → Unit → Bool
is_over queue unit = exceeds queue (length unit.body)

-- where the problem is done; where there is no room; else
abbrev pub put : Bool → Bool → Unit → Act
put true over unit = Ends_put unit ends_by.NoMoreWork
put false true unit = Refuses unit
put false false unit = Accepts unit

-- as the server is
abbrev pub put_now : Kept → Unit → Act
put_now k unit = put k.done (is_over k.queue unit) unit

-- A unit that has become free is settled: the rank that it goes to gets it; if there is no such rank, the wishes that it takes off go.

-- the unit goes to the rank that waits there; without one its hints go out
abbrev pub gives : Kept → Unit → Option Place → List Act
gives k unit None = hint_all unit k.parked.wishes
gives k unit (Some p) = Gives p.at p.here.wish p.here.to_ask unit ∷ []

-- a free unit goes to the first idle rank that takes it
abbrev pub settles_as : Kept → Option Placed → List Act
settles_as k None = []
settles_as k (Some p) = gives k p.unit (taker p.unit k.parked.waiting)

-- the free unit of the id is settled
abbrev pub settles : UnitId → Decider
settles id s = settles_as s.kept (find (is_free_as id) s.kept.queue.units)

-- the put is accepted
abbrev pub is_taken : Kept → Unit → Bool
is_taken k unit = not k.done && not (is_over k.queue unit)

-- then a push begins, where the queue is pressed
abbrev pub put_rule : ServerModel → Rank → Unit → Option Plan
put_rule s from unit =
    if expects_put s from unit then plan (put_now s.kept unit) (settles unit.id ∷ presses (is_taken s.kept unit) ∷ []) else None
