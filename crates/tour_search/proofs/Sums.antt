-- Ways out of cities, and what they sum up to.
use Rattle.std.proofs.Common.{◌≡◌, ◌<◌, ◌≤◌, ◌+◌, ◌-◌, ◌*◌, ℕ, zero, suc, List, [], ◌∷◌, ◌++◌, length, take, All, get_or, refl, sym, ap}
use Rattle.std.proofs.Common.{◌∙◌, subst, arith, inl, inr}
use Rattle.std.specs.Prelude.{sum_by}
use Rattle.std.proofs.lemmas.Bool.{cases_eq}
use Rattle.std.proofs.lemmas.List.{get_or_push, length_push}
use Rattle.std.proofs.lemmas.List.Elements.{All-nil, All-push, All-get_or}
use Rattle.std.proofs.lemmas.List.Sums.{sum_by_more}
use Rattle.tour_law.specs.Tours.{Costs}
use Rattle.tour_law.specs.Search.{IsWayOut, path, sum_below}
use Rattle.tour_law.specs.Beginnings.{path_cost}
use Rattle.tour_search.specs.Cities.{CitiesModel, costs, out_of}

get_left : (xs ys : List ℕ) (k : ℕ) → k < length xs → get_or (xs ++ ys) k 0 ≡ get_or xs k 0
get_left [] ys k below = absurd (omega arith)
get_left (x ∷ xs) ys zero below = refl
get_left (x ∷ xs) ys (suc k) below = get_left xs ys k (omega arith)

-- the ways out of the cities below `city`
pub record AreWays (cities : CitiesModel) (ways : List ℕ) (city : ℕ) : Type 0 where
  pub long : length ways ≡ city
  pub each : (k to : ℕ) → k < city → to < cities.count → (k ≡ to → ⊥) → out_of ways k ≤ costs cities k to
  pub low : All (λ x. x ≤ 1000000) ways

-- before the first city there is no way out
pub no_ways : (cities : CitiesModel) (ways : List ℕ) → ways ≡ [] → AreWays cities ways 0
no_ways cities ways e = subst (λ w. AreWays cities w 0) (sym e) (record {
  long = refl;
  each = λ k to below. absurd (omega arith);
  low = All-nil (λ x. x ≤ 1000000);
})

-- the least way out of one city more
pub one_way : (cities : CitiesModel) (ways new : List ℕ) (city x : ℕ) → AreWays cities ways city → new ≡ ways ++ x ∷ [] →
    ((to : ℕ) → to < cities.count → (city ≡ to → ⊥) → x ≤ costs cities city to) → x ≤ 1000000 → AreWays cities new (city + 1)
one_way cities ways new city x are e cheap low = subst (λ w. AreWays cities w (city + 1)) (sym e) (record {
  long = omega (arith, length_push ways x, are.long);
  each = λ k to below within other. elim (cases_eq k city) [
    | inl same ↦
        let at : out_of (ways ++ x ∷ []) k ≡ x = get_or_push ways x 0 k (are.long ∙ sym same) in
        let is : costs cities k to ≡ costs cities city to = ap (λ z. costs cities z to) same in
        let c = cheap to within (λ f. other (same ∙ f)) in
        omega (arith, at, is, c)
    | inr differs ↦
        let at : out_of (ways ++ x ∷ []) k ≡ out_of ways k = get_left ways (x ∷ []) k (omega (arith, are.long)) in
        let c = are.each k to (omega arith) within other in
        omega (arith, at, c)
  ];
  low = All-push (λ y. y ≤ 1000000) ways x are.low low;
})

-- one city more
pub below_more : (n : ℕ) (f : ℕ → ℕ) → sum_below (n + 1) f ≡ sum_below n f + f n
unfolding sum_below
below_more n f = let e : n + 1 ≡ suc n = omega arith in ap (λ k. sum_below k f) e

-- a sum over nothing is 0
pub none_below : (f : ℕ → ℕ) → sum_below 0 f ≡ 0
unfolding sum_below
none_below f = refl

-- The cost of a path.

path_step : (c : Costs) (x : ℕ) (q : List ℕ) (i : ℕ) → i < length q →
    path c x (take (suc i) q) ≡ path c x (take i q) + c (get_or (x ∷ q) i 0) (get_or q i 0)
path_step c x [] i below = absurd (omega arith)
path_step c x (y ∷ q) zero below = omega arith
path_step c x (y ∷ q) (suc i) below = let step = path_step c y q i (omega arith) in omega (arith, step)

-- a path with one city more costs one way more
pub path_more : (c : Costs) (p : List ℕ) (i : ℕ) → 1 ≤ i → i < length p →
    path_cost c (take (i + 1) p) ≡ path_cost c (take i p) + c (get_or p (i - 1) 0) (get_or p i 0)
path_more c [] i some below = absurd (omega arith)
path_more c (x ∷ q) zero some below = absurd (omega arith)
path_more c (x ∷ q) (suc i) some below =
    let step = path_step c x q i (omega arith) in
    let e : suc i + 1 ≡ suc (suc i) = omega arith in
    let f : suc i - 1 ≡ i = omega arith in
    ap (λ k. path_cost c (take k (x ∷ q))) e ∙ step ∙ ap (λ k. path c x (take i q) + c (get_or (x ∷ q) k 0) (get_or q i 0)) (sym f)

-- a path of one city costs nothing
pub path_one : (c : Costs) (p : List ℕ) → 1 ≤ length p → path_cost c (take 1 p) ≡ 0
path_one c [] some = absurd (omega arith)
path_one c (x ∷ q) some = refl
