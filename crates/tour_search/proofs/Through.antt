-- Tours that are made and improved.
use Rattle.std.proofs.Common.{◌≡◌, ◌<◌, ◌≤◌, ◌+◌, ◌-◌, ◌==◌, ℕ, zero, suc, List, [], ◌∷◌, ◌++◌, length, All, get_or, Some, None, slice_get}
use Rattle.std.proofs.Common.{refl, sym, ap, ◌∙◌, subst, arith, inl, inr, count_by, cond, IsPermutation}
use Rattle.std.specs.List.{range_with_len}
use Rattle.std.proofs.lemmas.Bool.{cases_eq}
use Rattle.std.proofs.lemmas.List.Elements.{All-nil, All-cons, All-head, All-tail, All-get_or}
use Rattle.std.proofs.lemmas.List.Sorted.{All-permutation, sum_by-IsPermutation}
use Rattle.tour_law.specs.Tours.{Costs, IsLeast, IsTour, cost}
use Rattle.tour_law.specs.Search.{IsAsGood}
use Rattle.tour_law.specs.Beginnings.{Continues, IsBeginning}
use Rattle.tour_law.proofs.Once.{times, times-same, times-other, times-more, tour-long, tour-once}
use Rattle.tour_law.proofs.Orders.{good_itself, good_on, least_of_good}

-- a tour of two cities at least is a beginning
pub tour_begins : (n : ℕ) (tour : List ℕ) → 2 ≤ n → IsTour n tour → IsBeginning n tour
tour_begins n tour many is = record {
  begins = is.begins;
  once = tour-once n tour is;
  cities = is.cities;
  long = let l = tour-long n tour is in omega (arith, l);
}

-- city 0 and another
pub two_begin : (n a : ℕ) → 1 ≤ a → a < n → IsBeginning n (0 ∷ a ∷ [])
two_begin n a some below = record {
  begins = refl;
  once = λ city. elim (cases_eq 0 city) [
    | inl same ↦
        let e : times city (0 ∷ a ∷ []) ≡ times 0 (0 ∷ a ∷ []) = ap (λ k. times k (0 ∷ a ∷ [])) (sym same) in
        omega (arith, e, times-same 0 (a ∷ []), times-other a 0 [] (λ f. omega arith))
    | inr other ↦ elim (cases_eq a city) [
      | inl same ↦
          let e : times city (0 ∷ a ∷ []) ≡ times a (0 ∷ a ∷ []) = ap (λ k. times k (0 ∷ a ∷ [])) (sym same) in
          omega (arith, e, times-other 0 a (a ∷ []) (λ f. omega arith), times-same a [])
      | inr differs ↦ omega (arith, times-other 0 city (a ∷ []) other, times-other a city [] differs)
    ]
  ];
  cities = All-cons (λ x. x < n) 0 (a ∷ []) (omega arith) (All-cons (λ x. x < n) a [] below (All-nil (λ x. x < n)));
  long = omega arith;
}

-- a tour goes from city 0 to another
pub record GoesTo (n : ℕ) (tour : List ℕ) : Type 0 where
  pub a : ℕ
  pub some : 1 ≤ a
  pub below : a < n
  pub on : Continues (0 ∷ a ∷ []) tour

-- a tour of two cities or more goes from city 0 to another
pub goes_to : (n : ℕ) (tour : List ℕ) → 2 ≤ n → IsTour n tour → GoesTo n tour
goes_to n [] many is = absurd (let l = tour-long n [] is in omega (arith, l))
goes_to n (x ∷ []) many is = absurd (let l = tour-long n (x ∷ []) is in omega (arith, l))
goes_to n (x ∷ a ∷ rest) many is =
    let zero_first : x ≡ 0 = let e = is.begins in cc in
    let a_low : a ≡ 0 → ⊥ = λ e.
    let o = tour-once n (x ∷ a ∷ rest) is 0 in
    let s : times 0 (x ∷ a ∷ rest) ≡ times x (x ∷ a ∷ rest) = ap (λ k. times k (x ∷ a ∷ rest)) (sym zero_first) in
    let t : times x (a ∷ rest) ≡ times a (a ∷ rest) = ap (λ k. times k (a ∷ rest)) (zero_first ∙ sym e) in
    omega (arith, o, s, t, times-same x (a ∷ rest), times-same a rest) in
    record {
      a = a;
      some = low a a_low;
      below = All-head (λ y. y < n) a rest (All-tail (λ y. y < n) x (a ∷ rest) is.cities);
      on = (rest, ap (λ z. z ∷ a ∷ rest) zero_first);
    }
  where
    low : (k : ℕ) → (k ≡ 0 → ⊥) → 1 ≤ k
    low zero none = absurd (none refl)
    low (suc k) none = omega arith

-- Few cities.

-- the ways from city 0 to the cities below `city` were tried
pub record IsTried (n : ℕ) (c : Costs) (best : List ℕ) (city : ℕ) : Type 0 where
  pub tried : (a : ℕ) → 1 ≤ a → a < city → (tour : List ℕ) → IsTour n tour → Continues (0 ∷ a ∷ []) tour → IsAsGood c best tour

-- before city 1 nothing is tried
pub none_tried : (n : ℕ) (c : Costs) (best : List ℕ) → IsTried n c best 1
none_tried n c best = record { tried = λ a some below. absurd (omega arith) }

-- one second city more is tried
pub one_tried : (n : ℕ) (c : Costs) (before best : List ℕ) (city : ℕ) → IsTried n c before city → IsAsGood c best before →
    ((tour : List ℕ) → IsTour n tour → Continues (0 ∷ city ∷ []) tour → IsAsGood c best tour) → IsTried n c best (city + 1)
one_tried n c before best city is good new = record {
  tried = λ a some below tour of on. elim (cases_eq a city) [
    | inl same ↦ new tour of (subst (λ k. Continues (0 ∷ k ∷ []) tour) same on)
    | inr other ↦ good_on c best before tour good (is.tried a some (omega arith) tour of on)
  ];
}

-- a tour of one city
only_one : (tour : List ℕ) → IsTour 1 tour → tour ≡ 0 ∷ []
only_one [] is = absurd (let l = tour-long 1 [] is in omega (arith, l))
only_one (x ∷ []) is = let e : x ≡ 0 = let b = is.begins in cc in ap (λ k. k ∷ []) e
only_one (x ∷ y ∷ rest) is = absurd (let l = tour-long 1 (x ∷ y ∷ rest) is in omega (arith, l))

-- if all second cities are tried, the best is a least tour
pub all_tried_least : (n : ℕ) (c : Costs) (best : List ℕ) (city : ℕ) → 1 ≤ n → n ≤ city → IsTour n best → IsTried n c best city →
    IsLeast n c best
all_tried_least zero c best city some past is tried = absurd (omega arith)
all_tried_least (suc zero) c best city some past is tried =
    least_of_good 1 c best is (λ b of. subst (λ t. IsAsGood c best t) (only_one best is ∙ sym (only_one b of)) (good_itself c best))
all_tried_least (suc (suc n)) c best city some past is tried =
    least_of_good (suc (suc n)) c best is (λ b of.
    let g = goes_to (suc (suc n)) b (omega arith) of in tried.tried g.a g.some (omega (arith, g.below)) b of g.on)

-- Two cities that change places.

first_stays : (xs ys : List ℕ) → length ys ≡ length xs → (get_or ys 0 0 ≡ get_or xs 0 0) → slice_get xs 0 ≡ Some 0 → slice_get ys 0 ≡ Some 0
first_stays [] ys e f is = absurd (cc)
first_stays (x ∷ xs) [] e f is = absurd (omega arith)
first_stays (x ∷ xs) (y ∷ ys) e f is = let z : x ≡ 0 = cc in ap Some (f ∙ z)

-- a reordering of a tour that begins alike is a tour
pub moved_tour : (n : ℕ) (xs ys : List ℕ) → IsTour n xs → IsPermutation xs ys → length ys ≡ length xs → get_or ys 0 0 ≡ get_or xs 0 0 →
    IsTour n ys
moved_tour n xs ys is same long first = record {
  begins = first_stays xs ys long first is.begins;
  once = λ city below. sum_by-IsPermutation (λ x. cond (x == city) 1 0) xs ys same ∙ is.once city below;
  cities = All-permutation (λ x. x < n) xs ys same is.cities;
}

-- the cities in their order, and one more
pub range_more : (a n : ℕ) → range_with_len a (n + 1) ≡ range_with_len a n ++ (a + n) ∷ []
range_more a zero = let e : a + 0 ≡ a = omega arith in ap (λ k. k ∷ []) (sym e)
range_more a (suc n) =
    let next : suc n + 1 ≡ suc (n + 1) = omega arith in
    let there : (a + 1) + n ≡ a + suc n = omega arith in
    ap (range_with_len a) next ∙ ap (λ l. a ∷ l) (range_more (a + 1) n) ∙ ap (λ k. a ∷ (range_with_len (a + 1) n ++ k ∷ [])) there
