-- What a search starts from: cities, and a tour through them.
use Rattle.std.specs.Prelude.{ℕ, zero, suc, ◌==◌, nat_le, nat_lt, Bool, true, false, ◌&&◌, List, [], ◌∷◌, count_by}
use Rattle.std.specs.List.{list_all}
use Rattle.tour_law.specs.Tours.{Costs, IsTour, costs_of}
use Rattle.tour_search.specs.Cities.{AreCities, CitiesModel}

-- what contracts see of a start
pub record StartModel : Type 0 where
  pub cities : CitiesModel
  pub first : List ℕ

-- the start has cities, and a tour through them
pub record IsStart (s : StartModel) : Type 0 where
  pub cities : AreCities s.cities
  pub first : IsTour s.cities.count s.first

-- the costs of its cities
abbrev pub costs : StartModel → Costs
costs s = costs_of s.cities.count s.cities.rows

-- As a test.

-- the list begins with city 0
abbrev pub begins_at_home : List ℕ → Bool
begins_at_home [] = false
begins_at_home (city ∷ rest) = city == 0

-- each of n cities is there once
unfoldable pub has_each : ℕ → List ℕ → Bool
has_each zero tour = true
has_each (suc n) tour = has_each n tour && (count_by (λ x. x == n) tour == 1)

-- the list is a tour of n cities, as a test
abbrev pub is_tour : ℕ → List ℕ → Bool
is_tour n tour = begins_at_home tour && list_all (λ city. nat_lt city n) tour && has_each n tour

-- no cost is too high, and the list is a tour
abbrev pub is_whole : ℕ → List ℕ → List ℕ → Bool
is_whole n rows tour = list_all (λ cost. nat_le cost 1000000) rows && is_tour n tour
