-- What a run over cities asks, by which programs it is run, and what is written of it.
use Rattle.std.specs.Prelude.{◌≡◌, ℕ, List, Some, Ok, Err, slice_get}
use Rattle.adlb_unit.specs.declared.names.Rank.{Rank}
use Rattle.bag_ledger.specs.declared.entries.Said.{Said}
use Rattle.tour_law.specs.Tours.{IsLeast, cost}
use Rattle.tour_search.specs.Cities.{CitiesModel, costs}
use Rattle.tour_search.specs.Reading.{input_cities}
use Rattle.tour_search.specs.declared.faults.CitiesWhy.{CitiesWhy}
use Rattle.tour_app.specs.Follows.{Follows}
use Rattle.tour_app.specs.Output.{tour_text}
use Rattle.tour_app.specs.Starts.{StartModel}
use Rattle.tour_app.specs.declared.outcomes.TourOutcome.{TourOutcome}
use Rattle.tour_app.specs.declared.program.TourProgram.{TourProgram}
use Rattle.least_law.specs.Joined.{StartsWell, start_at}

-- no line of the bytes is refused, and these are their cities
abbrev pub HasCities : List ℕ → CitiesModel → Type 0
HasCities bytes cities = input_cities bytes ≡ Ok cities

-- this is their first line that is refused, and why
abbrev pub RefusesLine : List ℕ → ℕ → CitiesWhy → Type 0
RefusesLine bytes line why = input_cities bytes ≡ Err (line, why)

-- the programs of the ranks: the first has the cities and a tour through them, a least one if they are fewer than four
pub record ArePrograms (cities : CitiesModel) (programs : List TourProgram) : Type 0 where
  pub start : StartModel
  pub cities_are : start.cities ≡ cities
  pub well : StartsWell start
  pub each : (rank : Rank) (p : TourProgram) → slice_get programs rank.0 ≡ Some p → p.start ≡ start_at start rank

-- what a rank said follows its program at this outcome
abbrev pub FollowsTours : TourProgram → Rank → List Said → TourOutcome → Type 0
FollowsTours program rank said outcome = Follows program said outcome

-- the text of a least tour: no tour costs less, and none that costs as much comes before it
pub record TellsLeast (cities : CitiesModel) (told : List ℕ) : Type 0 where
  pub tour : List ℕ
  pub least : IsLeast cities.count (costs cities) tour
  pub text : told ≡ tour_text cities.count (cost (costs cities) tour) tour
