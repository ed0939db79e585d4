-- The tours that the ranks of a run found.
use Rattle.std.specs.Prelude.{◌≡◌, ℕ, List, [], ◌∷◌, Contains, All, Option, Some, None, flat_map, if◌then◌else◌}
use Rattle.tour_law.specs.Tours.{Costs, IsLeast, IsTour, cost}
use Rattle.tour_search.specs.Cities.{beats}
use Rattle.tour_search.specs.declared.tours.Tour.{Tour}
use Rattle.tour_app.specs.declared.outcomes.TourOutcome.{TourOutcome}

-- all these are tours with their costs, and one is a least tour
pub record HoldLeast (n : ℕ) (c : Costs) (found : List (ℕ × List ℕ)) : Type 0 where
  pub tours : All (λ f. IsTour n f.1 × (f.0 ≡ cost c f.1)) found
  pub least : List ℕ
  pub there : Contains found (cost c least, least)
  pub is : IsLeast n c least

-- what all ranks found
abbrev pub all_found : List TourOutcome → List (ℕ × List ℕ)
all_found outcomes = flat_map (λ (o : TourOutcome). o.found.items) outcomes

-- The best of tours.

-- a tour by its cost and cities
abbrev pub seen : Option Tour → Option (ℕ × List ℕ)
seen None = None
seen (Some t) = Some (t.cost, t.cities.items)

-- the better of the best and one tour
abbrev pub better : Option (ℕ × List ℕ) → ℕ × List ℕ → Option (ℕ × List ℕ)
better None f = Some f
better (Some b) f = if beats f.0 f.1 b.0 b.1 then Some f else Some b

-- the best of these tours and of the one so far
abbrev pub best_from : Option (ℕ × List ℕ) → List (ℕ × List ℕ) → Option (ℕ × List ℕ)
best_from best [] = best
best_from best (f ∷ found) = best_from (better best f) found
