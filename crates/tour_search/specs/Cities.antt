-- Cities as they are seen, and what is known while they are searched.
use Rattle.std.specs.Prelude.{◌≡◌, ◌≤◌, ◌<◌, ◌*◌, ◌==◌, ◌&&◌, ◌||◌, ℕ, Bool, List, length, take, All, nat_lt, slice_index}
use Rattle.std.specs.Cmp.Lexicographic.{slice_cmp}
use Rattle.std.specs.Ordering.{nat_cmp, is_gt, is_lt}
use Rattle.tour_law.specs.Tours.{Costs, IsTour, cost, costs_of}
use Rattle.tour_search.specs.declared.tours.Tour.{Tour}

-- what contracts see of cities
pub record CitiesModel : Type 0 where
  pub count : ℕ
  pub rows : List ℕ

-- there are 1 to 12 cities, with a cost of at most 1,000,000 from each to each
pub record AreCities (cities : CitiesModel) : Type 0 where
  pub some : 1 ≤ cities.count
  pub few : cities.count ≤ 12
  pub long : length cities.rows ≡ cities.count * cities.count
  pub low : All (λ x. x ≤ 1000000) cities.rows

-- the cost from each city to each
abbrev pub costs : CitiesModel → Costs
costs cities = costs_of cities.count cities.rows

-- the number that is at a city
abbrev pub out_of : List ℕ → ℕ → ℕ
out_of ways city = slice_index ways city

-- it is a tour with its cost
pub record IsKnown (cities : CitiesModel) (t : Tour) : Type 0 where
  pub tour : IsTour cities.count t.cities.items
  pub cost : t.cost ≡ cost (costs cities) t.cities.items

-- a beginning is cut if its bound exceeds the best known cost, and if it is as high and the beginning follows that of the best tour
abbrev pub cuts : ℕ → List ℕ → ℕ → List ℕ → Bool
cuts bound beginning best tour =
    nat_lt best bound || ((bound == best) && is_gt (slice_cmp nat_cmp beginning (take (length beginning) tour)))

-- a tour of this cost beats another: cheaper, or as cheap and before it
abbrev pub beats : ℕ → List ℕ → ℕ → List ℕ → Bool
beats cost tour best known = nat_lt cost best || ((cost == best) && is_lt (slice_cmp nat_cmp tour known))
