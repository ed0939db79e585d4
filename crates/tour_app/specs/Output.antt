-- The output of a run over cities.
use Rattle.std.specs.Prelude.{ℕ, List, ◌++◌, codes, decimal, flat_map}

-- each city after one space
abbrev pub cities_text : List ℕ → List ℕ
cities_text tour = flat_map (λ city. codes " " ++ decimal city) tour

-- how many cities there are, what a tour costs, and the tour
abbrev pub tour_text : ℕ → ℕ → List ℕ → List ℕ
tour_text count cost tour =
    (codes "cities " ++ decimal count ++ codes "\n") ++ (codes "cost " ++ decimal cost ++ codes "\n")
    ++ (codes "tour" ++ cities_text tour ++ codes "\n")
