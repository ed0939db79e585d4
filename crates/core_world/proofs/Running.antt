-- Events that are applied one after the other.
use Rattle.std.proofs.Common.{◌≡◌, ℕ, List, [], ◌∷◌, ◌++◌, length, Option, Some, None, refl, ap, ◌∙◌}
use Rattle.std.specs.Prelude.{option_and_then}
use Rattle.std.specs.List.{slice_get}
use Rattle.std.proofs.Math.Seq.{take-append_seam}
use Rattle.core_run.specs.declared.events.Event.{Event}
use Rattle.core_run.specs.Runs.{Runs, run}
use Rattle.core_run.specs.World.{World, happens}
use Rattle.core_world.specs.declared.faults.ApplyFault.{ApplyFault}
use Rattle.core_world.specs.Applied.{Refuses, StopsAt}
use Rattle.core_world.specs.Seen.{Seen}

by_step : (mid next : World) (front : List Event) (e : Event) → ((v : World) → run v front ≡ Some mid → run v (front ++ e ∷ []) ≡ Some next)
    → (o : Option World) → option_and_then (λ v. run v front) o ≡ Some mid → option_and_then (λ v. run v (front ++ e ∷ [])) o ≡ Some next
by_step mid next front e more None ran = absurd (cc)
by_step mid next front e more (Some v) ran = more v ran

-- a run with one event more
pub run_more : (w mid next : World) (front : List Event) (e : Event) → run w front ≡ Some mid → happens mid e ≡ Some next
    → run w (front ++ e ∷ []) ≡ Some next
run_more w mid next [] e ran h = let same : w ≡ mid = cc in rw (same, h) refl
run_more w mid next (x ∷ front) e ran h = by_step mid next front e (λ v more. run_more v mid next front e more h) (happens w x) ran

-- and as a relation
pub runs_more : (w middle next : World) (events : List Event) (e : Event) → Runs w events middle → happens middle e ≡ Some next
    → Runs w (events ++ e ∷ []) next
runs_more w middle next [] e runs happened = (next, ap (λ v. happens v e) runs ∙ happened, refl)
runs_more w middle next (d ∷ events) e runs happened = (runs.0, runs.1, runs_more runs.0 middle next events e runs.2 happened)

at_seam : (front rest : List Event) (e : Event) → slice_get (front ++ e ∷ rest) (length front) ≡ Some e
at_seam [] rest e = refl
at_seam (x ∷ front) rest e = at_seam front rest e

-- a run whose next event is refused stops at its number
pub stops_at : (old before new : Seen) (events front rest : List Event) (e : Event) (number : ℕ) (fault : ApplyFault)
    → events ≡ front ++ e ∷ rest
    → number ≡ length front → run old.world front ≡ Some before.world → before.trouble ≡ old.trouble → Refuses before e fault new
    → StopsAt old events number fault new
stops_at old before new events front rest e number fault all is ran going refused = record {
  before = before;
  event = e;
  there = rw (all, is) (at_seam front rest e);
  ran = rw (all, is, take-append_seam front (e ∷ rest)) ran;
  going = going;
  refused = refused;
}
