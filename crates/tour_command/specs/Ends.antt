-- How `tour` ends.
use Rattle.std.specs.Prelude.{ℕ, false, List, Option}
use Rattle.adlb_unit.specs.declared.configs.Config.{Config}
use Rattle.run_command.specs.Ends.{EndsBy, Scene}
use Rattle.run_command.specs.Kept.{IsKept, IsRunWith, Kept}
use Rattle.run_command.specs.declared.faults.Fault.{Fault}
use Rattle.tour_app.specs.declared.outcomes.TourOutcome.{TourOutcome}
use Rattle.tour_command.specs.Tours.{ArePrograms, FollowsTours, HasCities, RefusesLine, TellsLeast}
use Rattle.tour_search.specs.declared.faults.CitiesWhy.{CitiesWhy}

-- the ends of a run over cities, of which a least tour is told
abbrev pub EndsWith : Scene → Scene → Option (Fault CitiesWhy) → Option (Kept TourOutcome) → Type 0
EndsWith before after fault kept =
    EndsBy HasCities RefusesLine (IsKept (λ ranks. ArePrograms) FollowsTours) (λ cities k told. TellsLeast cities told)
    (λ cities. Unit {0}) before after fault kept

-- the ends of `tour`: it runs in threads, and what is kept has such numbers
pub record FindsTour (IsOf : Config → Type 0) (before after : Scene) (fault : Option (Fault CitiesWhy)) (kept : Option (Kept TourOutcome))
    : Type 0 where
  pub ends : EndsWith before after fault kept
  pub run : IsRunWith IsOf false before after kept
