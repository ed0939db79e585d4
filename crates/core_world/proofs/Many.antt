-- A stamp that is not given comes only after very many calls.
use Rattle.adlb_unit.specs.Limits.{stamp_limit}
use Rattle.adlb_unit.specs.Links.{is_within, place_of}
use Rattle.adlb_unit.specs.declared.actors.Actor.{Actor}
use Rattle.adlb_unit.specs.declared.letters.Letter.{Letter}
use Rattle.adlb_unit.specs.declared.notes.Trouble.{Trouble}
use Rattle.core_progress_law.proofs.Bound.{begun_count, few_events}
use Rattle.core_progress_law.proofs.Stamps.{front_up_to, stamps_up_to}
use Rattle.core_progress_law.specs.Bounds.{calls_begun}
use Rattle.core_run.specs.World.{World, link}
use Rattle.core_run.specs.declared.events.Event.{Event}
use Rattle.core_world.specs.Applied.{Stops, event_stamp, fault_of, front_stamp}
use Rattle.core_world.specs.Stage.{IsReached}
use Rattle.core_world.specs.declared.faults.ApplyFault.{ApplyFault}
use Rattle.std.proofs.Common.{Bool, Err, List, Ok, [], ap, arith, cond, false, length, refl, sym, true, ℕ, ◌&&◌, ◌+◌, ◌^◌, ◌∙◌, ◌∷◌}
use Rattle.std.proofs.Common.{◌≡◌, ◌≤◌}
use Rattle.std.proofs.lemmas.Bool.{and_parts}
use Rattle.std.specs.Prelude.{Result}
use Rattle.adlb_unit.specs.declared.actors.Actor.TheVariants as by
use Rattle.adlb_unit.specs.declared.notes.Trouble.TheVariants as troubles
use Rattle.core_run.specs.declared.events.Event.TheVariants as occurs
use Rattle.core_world.specs.declared.faults.ApplyFault.TheVariants as faults

-- the stamp of the next event is at most one more than there were events
next_low : (w : World) (is : IsReached w) (event : Event) → event_stamp w event ≤ length is.events + 1
next_low w is (occurs.Call rank call) = let low = stamps_up_to w.config is.events w (by.Rank rank) is.run in omega arith
next_low w is (occurs.Deliver from to) = by_test (is_within w.config from && is_within w.config to) refl
  where
    by_front : (to : Actor) → is_within w.config from ≡ true → is_within w.config to ≡ true → (letters : List Letter)
        → link w.links (place_of w.config from) (place_of w.config to) ≡ letters → front_stamp w to letters ≤ length is.events + 1
    by_front to f t [] front = omega arith
    by_front (by.Rank to) f t (letter ∷ rest) front =
        let low = stamps_up_to w.config is.events w (by.Rank to) is.run in
        let sent = front_up_to w.config is.events w from (by.Rank to) letter rest is.run f t front in
        omega arith
    by_front (by.Server to) f t (letter ∷ rest) front =
        let low = stamps_up_to w.config is.events w (by.Server to) is.run in
        let sent = front_up_to w.config is.events w from (by.Server to) letter rest is.run f t front in
        omega arith

    by_test : (t : Bool) → (is_within w.config from && is_within w.config to) ≡ t
        → front_stamp w to (cond t (link w.links (place_of w.config from) (place_of w.config to)) []) ≤ length is.events + 1
    by_test true e =
        let parts = and_parts (is_within w.config from) (is_within w.config to) e in
        by_front to parts.0 parts.1 (link w.links (place_of w.config from) (place_of w.config to)) refl
    by_test false e = omega arith

many_calls : (w : World) (event : Event) → IsReached w → stamp_limit ≤ event_stamp w event → 2 ^ 34 ≤ calls_begun w
many_calls w event is late =
    let low = next_low w is event in
    let few = few_events w.config is.events w is.run in
    let count = begun_count w.config is.events w is.run in
    omega arith

-- by the trouble by which an enabled event failed
pub late_many : (old new : World) (event : Event) (trouble : Trouble) (stamp : ℕ) → IsReached old → Stops old event trouble new
    → fault_of trouble ≡ faults.TooLong stamp → 2 ^ 34 ≤ calls_begun old
late_many old new event troubles.Memory stamp reached stops is = absurd (cc)
late_many old new event (troubles.TooLong late) stamp reached stops is =
    let cause = stops.cause in
    many_calls old event reached (omega (arith, cause.0, cause.1))

fault_in : {T : Type 0} → ApplyFault → Result T ApplyFault → ApplyFault
fault_in f (Ok t) = f
fault_in f (Err g) = g

-- a result has one fault at most
pub err_same : {T : Type 0} (r : Result T ApplyFault) (f g : ApplyFault) → r ≡ Err f → r ≡ Err g → f ≡ g
unfolding fault_in
err_same r f g p q = ap (fault_in f) (sym p ∙ q)
