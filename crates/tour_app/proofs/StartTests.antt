-- What the tests of a start say.
use Rattle.std.proofs.Common.{◌≡◌, ◌<◌, ◌≤◌, ◌+◌, ◌*◌, ◌==◌, ◌&&◌, ℕ, zero, suc, Bool, true, false, cond, List, [], ◌∷◌, ◌++◌, length, take}
use Rattle.std.proofs.Common.{drop, All, get_or, count_by, Option, Some, None, slice_get, refl, sym, ap, ◌∙◌, subst, arith, inl, inr}
use Rattle.std.specs.Prelude.{nat_le, nat_lt}
use Rattle.std.specs.List.{list_all}
use Rattle.std.proofs.lemmas.Bool.{and_from, and_parts, cases_eq, eq-eqb, eqb-true, le-leb, leb-true, lt-ltb, ltb-true}
use Rattle.std.proofs.lemmas.List.Elements.{All-cons, All-head, All-nil, All-tail}
use Rattle.tour_law.specs.Tours.{IsTour}
use Rattle.tour_search.specs.Cities.{AreCities}
use Rattle.tour_app.specs.Starts.{begins_at_home, has_each, is_tour, is_whole}

-- what passes for each, and what holds of each
pub all_of : (p : ℕ → Bool) (P : ℕ → Type 0) → ((x : ℕ) → p x ≡ true → P x) → (xs : List ℕ) → list_all p xs ≡ true → All P xs
all_of p P means [] e = All-nil P
all_of p P means (x ∷ xs) e =
    let parts = and_parts (p x) (list_all p xs) e in
    All-cons P x xs (means x parts.0) (all_of p P means xs parts.1)

-- if each element has the property, all pass
pub passes_all : (p : ℕ → Bool) (P : ℕ → Type 0) → ((x : ℕ) → P x → p x ≡ true) → (xs : List ℕ) → All P xs → list_all p xs ≡ true
passes_all p P means [] all = refl
passes_all p P means (x ∷ xs) all =
    and_from (p x) (list_all p xs) (means x (All-head P x xs all)) (passes_all p P means xs (All-tail P x xs all))

-- A tour.

home_is : (tour : List ℕ) → begins_at_home tour ≡ true → slice_get tour 0 ≡ Some 0
home_is [] e = absurd (cc)
home_is (x ∷ rest) e = ap Some (eqb-true x 0 e)

is_home : (tour : List ℕ) → slice_get tour 0 ≡ Some 0 → begins_at_home tour ≡ true
is_home [] e = absurd (cc)
is_home (x ∷ rest) e = eq-eqb x 0 (let f : x ≡ 0 = cc in f)

-- how often a city is there
abbrev times : ℕ → List ℕ → ℕ
times city tour = count_by (λ x. x == city) tour

each_once : (n : ℕ) (tour : List ℕ) → has_each n tour ≡ true → (k : ℕ) → k < n → times k tour ≡ 1
unfolding has_each
each_once zero tour e k below = absurd (omega arith)
each_once (suc n) tour e k below =
    let parts = and_parts (has_each n tour) (times n tour == 1) e in
    elim (cases_eq k n) [
      | inl same ↦ ap (λ z. times z tour) same ∙ eqb-true (times n tour) 1 parts.1
      | inr other ↦ each_once n tour parts.0 k (omega arith)
    ]

once_each : (n : ℕ) (tour : List ℕ) → ((k : ℕ) → k < n → times k tour ≡ 1) → has_each n tour ≡ true
unfolding has_each
once_each zero tour once = refl
once_each (suc n) tour once =
    and_from (has_each n tour) (times n tour == 1) (once_each n tour (λ k below. once k (omega arith)))
    (eq-eqb (times n tour) 1 (once n (omega arith)))

-- a tour has each of no cities
pub none_each : (tour : List ℕ) → has_each 0 tour ≡ true
unfolding has_each
none_each tour = refl

-- a tour has each of one city more, if it has it once
pub more_each : (n : ℕ) (tour : List ℕ) → has_each n tour ≡ true → times n tour ≡ 1 → has_each (n + 1) tour ≡ true
unfolding has_each
more_each n tour e one =
    let next : n + 1 ≡ suc n = omega arith in
    ap (λ k. has_each k tour) next ∙ and_from (has_each n tour) (times n tour == 1) e (eq-eqb (times n tour) 1 one)

-- a tour that does not have a city once does not have each
pub not_each : (n k : ℕ) (tour : List ℕ) → k < n → (times k tour ≡ 1 → ⊥) → has_each n tour ≡ false
not_each n k tour below never = at (has_each n tour) refl
  where
    at : (b : Bool) → b ≡ has_each n tour → b ≡ false
    at false e = refl
    at true e = absurd (never (each_once n tour (sym e) k below))

-- a list that passes the test is a tour
pub tour_of_test : (n : ℕ) (tour : List ℕ) → is_tour n tour ≡ true → IsTour n tour
tour_of_test n tour e =
    let parts = and_parts (begins_at_home tour && list_all (λ city. nat_lt city n) tour) (has_each n tour) e in
    let front = and_parts (begins_at_home tour) (list_all (λ city. nat_lt city n) tour) parts.0 in
    record {
      begins = home_is tour front.0;
      once = each_once n tour parts.1;
      cities = all_of (λ city. nat_lt city n) (λ x. x < n) (λ x e. ltb-true x n e) tour front.1;
    }

-- a tour passes the test
pub test_of_tour : (n : ℕ) (tour : List ℕ) → IsTour n tour → is_tour n tour ≡ true
test_of_tour n tour is =
    and_from (begins_at_home tour && list_all (λ city. nat_lt city n) tour) (has_each n tour)
    (and_from (begins_at_home tour) (list_all (λ city. nat_lt city n) tour) (is_home tour is.begins)
    (passes_all (λ city. nat_lt city n) (λ x. x < n) (λ x less. lt-ltb x n less) tour is.cities))
    (once_each n tour is.once)

-- Costs and a tour.

-- a start's ways are low, and its first tour is one
pub record IsWhole (n : ℕ) (rows tour : List ℕ) : Type 0 where
  pub low : All (λ x. x ≤ 1000000) rows
  pub tour_is : IsTour n tour

-- a start that passes the test is whole
pub whole_of_test : (n : ℕ) (rows tour : List ℕ) → is_whole n rows tour ≡ true → IsWhole n rows tour
whole_of_test n rows tour e =
    let parts = and_parts (list_all (λ cost. nat_le cost 1000000) rows) (is_tour n tour) e in
    record {
      low = all_of (λ cost. nat_le cost 1000000) (λ x. x ≤ 1000000) (λ x e. leb-true x 1000000 e) rows parts.0;
      tour_is = tour_of_test n tour parts.1;
    }

-- a start that is whole passes the test
pub test_of_whole : (n : ℕ) (rows tour : List ℕ) → All (λ x. x ≤ 1000000) rows → IsTour n tour → is_whole n rows tour ≡ true
test_of_whole n rows tour low is =
    and_from (list_all (λ cost. nat_le cost 1000000) rows) (is_tour n tour)
    (passes_all (λ cost. nat_le cost 1000000) (λ x. x ≤ 1000000) (λ x less. le-leb x 1000000 less) rows low) (test_of_tour n tour is)
