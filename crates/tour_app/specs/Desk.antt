-- What the units that come to a rank change on its desk.
use Rattle.std.specs.Prelude.{◌≡◌, ℕ, List, ◌++◌, flat_map, Option, Some, None}
use Rattle.work_law.specs.Work.{Arrival, arrival, made_by}
use Rattle.work_law.specs.Books.{over_bytes}
use Rattle.tour_app.specs.Works.{found, found_in, tours}
use Rattle.tour_app.specs.declared.desk.Desk.{Desk}
use Rattle.tour_app.specs.declared.units.TourUnit.{TourUnit}

-- a unit came: what the work on it makes waits before all else, and a tour stays
pub record Receives (a : Arrival TourUnit) (old new : Desk) : Type 0 where
  pub waiting : new.waiting.items ≡ made_by tours a ++ old.waiting.items
  pub found_are : new.found.items ≡ old.found.items ++ found_in a.unit

-- a fetch came, of these common bytes and with this unit, if it has the form of one
abbrev pub Brings : List ℕ → Option TourUnit → Desk → Desk → Type 0
Brings common None old new = new ≡ old
Brings common (Some unit) old new = Receives (arrival tours common unit) old new

-- the units of a batch came that no server takes: what the work on them makes waits after all else
pub record TakesOver (common : List ℕ) (units : List TourUnit) (old new : Desk) : Type 0 where
  pub waiting : new.waiting.items ≡ old.waiting.items ++ flat_map (made_by tours) (over_bytes tours common units)
  pub found_are : new.found.items ≡ old.found.items ++ found (over_bytes tours common units)
