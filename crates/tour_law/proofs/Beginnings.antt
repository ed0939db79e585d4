-- Beginnings of tours: how they go on, what they cost, and when nothing is lost by cutting one.
use Rattle.std.proofs.Common.{◌≡◌, ◌<◌, ◌≤◌, ◌+◌, ◌-◌, ◌*◌, ◌==◌, ℕ, zero, suc, List, [], ◌∷◌, ◌++◌, length, get_or, take, All, Some, inl}
use Rattle.std.proofs.Common.{inr, ◌⊎◌, refl, sym, ap, ◌∙◌, subst, arith, append_assoc, append-nil}
use Rattle.std.specs.Prelude.{sum_by, slice_get}
use Rattle.std.specs.Cmp.Lexicographic.{slice_cmp}
use Rattle.std.specs.Ordering.{nat_cmp, ordering_then}
use Rattle.std.specs.declared.cmp.Ordering.{Ordering}
use Rattle.std.specs.declared.cmp.Ordering.TheVariants.{Less, Equal, Greater}
use Rattle.std.proofs.Math.Nat.{mul-le-mul_right, one-mul}
use Rattle.std.proofs.lemmas.Bool.{cases_eq, cases_lt}
use Rattle.std.proofs.lemmas.List.{length-append}
use Rattle.std.proofs.lemmas.List.Elements.{All-append, All-cons, All-nil, All-contains, All-get_or, Contains-append_right}
use Rattle.std.proofs.lemmas.List.Sums.{sum_by-append, sum_by-cons}
use Rattle.tour_law.specs.Tours.{Costs, IsBefore, IsTour, cost, way}
use Rattle.tour_law.specs.Search.{IsAsGood, IsWayOut, bound, end_of, path, sum_below}
use Rattle.tour_law.specs.Beginnings.{Continues, IsBeginning, IsOnce, path_cost}
use Rattle.tour_law.proofs.Bound.{cut-above, cut-equal, way-split}
use Rattle.tour_law.proofs.Once.{below-same, sum-times, times, times-same, times-other, tour-long, tour-once}

-- a beginning of at least two cities: city 0, another, and the rest
pub record HasShape (p : List ℕ) : Type 0 where
  pub a : ℕ
  pub q : List ℕ
  pub is : p ≡ 0 ∷ a ∷ q

-- a beginning of a tour has a first and a last city
pub shape : (n : ℕ) (p : List ℕ) → IsBeginning n p → HasShape p
shape n [] is = absurd (omega (arith, is.long))
shape n (x ∷ []) is = absurd (omega (arith, is.long))
shape n (x ∷ a ∷ q) is = let e : x ≡ 0 = let b = is.begins in cc in record { a = a; q = q; is = ap (λ z. z ∷ a ∷ q) e }

-- How it goes on.

-- the one tour that continues a beginning of all cities is that beginning
pub full : (n : ℕ) (p tour : List ℕ) → length p ≡ n → IsTour n tour → Continues p tour → tour ≡ p
full n p tour all is on = at on.0 on.1
  where
    at : (rest : List ℕ) → tour ≡ p ++ rest → tour ≡ p
    at [] e = e ∙ append-nil p
    at (x ∷ rest) e =
        let long = tour-long n tour is in
        let both = ap length e in
        absurd (omega (arith, long, both, length-append p (x ∷ rest)))

-- a tour goes on from a beginning with a new city
pub record GoesOn (n : ℕ) (p tour : List ℕ) : Type 0 where
  pub x : ℕ
  pub below : x < n
  pub new : times x p ≡ 0
  pub on : Continues (p ++ x ∷ []) tour

times-append : (x : ℕ) (p q : List ℕ) → times x (p ++ q) ≡ times x p + times x q
times-append x p q = sum_by-append _ p q

-- a tour that continues a shorter beginning visits a new city next
pub next : (n : ℕ) (p tour : List ℕ) → length p < n → IsTour n tour → Continues p tour → GoesOn n p tour
next n p tour less is on = at on.0 on.1
  where
    at : (rest : List ℕ) → tour ≡ p ++ rest → GoesOn n p tour
    at [] e =
        let long = tour-long n tour is in
        let both = ap length (e ∙ append-nil p) in
        absurd (omega (arith, long, both))
    at (x ∷ rest) e =
        let here : All (λ y. y < n) (p ++ x ∷ rest) = subst (λ l. All (λ y. y < n) l) e is.cities in
        let below : x < n =
        All-contains (λ y. y < n) (p ++ x ∷ rest) x here (Contains-append_right p (x ∷ rest) x (0, omega arith, refl)) in
        let once : times x (p ++ x ∷ rest) ≡ 1 = ap (times x) (sym e) ∙ is.once x below in
        record {
          x = x;
          below = below;
          new = omega (arith, once, times-append x p (x ∷ rest), times-same x rest);
          on = (rest, e ∙ sym (append_assoc p (x ∷ []) rest));
        }

times-one : (city x : ℕ) → times city (x ∷ []) ≤ 1
times-one city x = elim (cases_eq x city) [
  | inl same ↦ let e : times city (x ∷ []) ≡ times x (x ∷ []) = ap (λ k. times k (x ∷ [])) (sym same) in omega (arith, e, times-same x [])
  | inr other ↦ omega (arith, times-other x city [] other)
]

-- a beginning with a new city after it is a beginning
pub longer : (n : ℕ) (p : List ℕ) (x : ℕ) → IsBeginning n p → x < n → times x p ≡ 0 → IsBeginning n (p ++ x ∷ [])
longer n p x is below new =
    let s = shape n p is in
    record {
      begins = ap (λ l. slice_get (l ++ x ∷ []) 0) s.is;
      once = λ city. elim (cases_eq x city) [
        | inl same ↦
            let e : times city (p ++ x ∷ []) ≡ times x (p ++ x ∷ []) = ap (λ k. times k (p ++ x ∷ [])) (sym same) in
            omega (arith, e, times-append x p (x ∷ []), times-same x [], new)
        | inr other ↦ omega (arith, times-append city p (x ∷ []), times-other x city [] other, is.once city)
      ];
      cities = All-append (λ y. y < n) p (x ∷ []) is.cities (All-cons (λ y. y < n) x [] below (All-nil (λ y. y < n)));
      long = omega (arith, is.long, length-append p (x ∷ []));
    }

-- Where it has all cities it is a tour.

below-few : (n : ℕ) (f : ℕ → ℕ) → ((k : ℕ) → f k ≤ 1) → sum_below n f ≤ n
unfolding sum_below
below-few zero f few = omega arith
below-few (suc n) f few = omega (arith, below-few n f few, few n)

all-ones : (n : ℕ) (f : ℕ → ℕ) → ((k : ℕ) → f k ≤ 1) → sum_below n f ≡ n → (k : ℕ) → k < n → f k ≡ 1
unfolding sum_below
all-ones zero f few all k below = absurd (omega arith)
all-ones (suc n) f few all k below =
    let last : f n ≡ 1 = omega (arith, below-few n f few, few n) in
    let rest : sum_below n f ≡ n = omega (arith, last) in
    elim (cases_eq k n) [
      | inl same ↦ ap f same ∙ last
      | inr other ↦ all-ones n f few rest k (omega arith)
    ]

length-ones : (xs : List ℕ) → sum_by (λ x. 1) xs ≡ length xs
length-ones [] = refl
length-ones (x ∷ xs) = omega (arith, sum_by-cons (λ (y : ℕ). 1) x xs, length-ones xs)

mul-one-right : (t : ℕ) → t * 1 ≡ t
mul-one-right t = omega arith

-- a beginning of all cities is a tour
pub whole : (n : ℕ) (p : List ℕ) → IsBeginning n p → length p ≡ n → IsTour n p
whole n p is all =
    let count : sum_below n (λ k. times k p) ≡ n =
    sym (below-same n (λ k. times k p * 1) (λ k. times k p) (λ k below. mul-one-right (times k p)))
    ∙ sym (sum-times n (λ x. 1) p is.cities) ∙ length-ones p ∙ all in
    record {
      begins = is.begins;
      once = all-ones n (λ k. times k p) is.once count;
      cities = is.cities;
    }

-- What it costs.

-- the last city read at its place is the end
pub end_is : (from : ℕ) (q : List ℕ) (d : ℕ) → get_or (from ∷ q) (length q) d ≡ end_of from q
end_is from [] d = refl
end_is from (x ∷ q) d = end_is x q d

path-more : (c : Costs) (from : ℕ) (q : List ℕ) (y : ℕ) → path c from (q ++ y ∷ []) ≡ path c from q + c (end_of from q) y
path-more c from [] y = omega arith
path-more c from (x ∷ q) y = omega (arith, path-more c x q y)

-- the last city
abbrev pub last_of : List ℕ → ℕ
last_of p = get_or p (length p - 1) 0

last_at : (a : ℕ) (q : List ℕ) → last_of (0 ∷ a ∷ q) ≡ end_of a q
last_at a q =
    let e : suc (suc (length q)) - 1 ≡ suc (length q) = omega arith in
    ap (λ k. get_or (0 ∷ a ∷ q) k 0) e ∙ end_is a q 0

-- one more city adds the way from the last city to it
pub path_cost-more : (n : ℕ) (c : Costs) (p : List ℕ) (y : ℕ) → IsBeginning n p
    → path_cost c (p ++ y ∷ []) ≡ path_cost c p + c (last_of p) y
path_cost-more n c p y is =
    let s = shape n p is in
    let l : last_of p ≡ end_of s.a s.q = ap last_of s.is ∙ last_at s.a s.q in
    let more : path_cost c (0 ∷ s.a ∷ (s.q ++ y ∷ [])) ≡ c 0 s.a + path c s.a s.q + c (end_of s.a s.q) y =
    omega (arith, path-more c s.a s.q y) in
    ap (λ z. path_cost c (z ++ y ∷ [])) s.is ∙ more ∙ ap (λ k. c 0 s.a + path c s.a s.q + c k y) (sym l)
    ∙ ap (λ z. path_cost c z + c (last_of p) y) (sym s.is)

-- a tour costs its path and the way back to city 0
pub cost-full : (n : ℕ) (c : Costs) (p : List ℕ) → IsBeginning n p → cost c p ≡ path_cost c p + c (last_of p) 0
cost-full n c p is =
    let s = shape n p is in
    let l : last_of p ≡ end_of s.a s.q = ap last_of s.is ∙ last_at s.a s.q in
    let split : cost c (0 ∷ s.a ∷ s.q) ≡ c 0 s.a + path c s.a s.q + c (end_of s.a s.q) 0 =
    let w = way-split c s.a s.q [] 0 in
    let none : way c s.a (s.q ++ []) 0 ≡ way c s.a s.q 0 = ap (λ z. way c s.a z 0) (append-nil s.q) in
    omega (arith, w, none) in
    ap (cost c) s.is ∙ split ∙ ap (λ k. c 0 s.a + path c s.a s.q + c k 0) (sym l)
    ∙ ap (λ z. path_cost c z + c (last_of p) 0) (sym s.is)

-- Cutting.

below-le : (n : ℕ) (f g : ℕ → ℕ) → ((k : ℕ) → f k ≤ g k) → sum_below n f ≤ sum_below n g
unfolding sum_below
below-le zero f g le = omega arith
below-le (suc n) f g le = omega (arith, below-le n f g le, le n)

-- a sum over cities that differ is at most that over all cities
pub sum-within : (n : ℕ) (f : ℕ → ℕ) (p : List ℕ) → IsOnce p → All (λ x. x < n) p → sum_by f p ≤ sum_below n f
sum-within n f p once within =
    let e = sum-times n f p within in
    let le = below-le n (λ k. times k p * f k) f (λ k. few (times k p) (f k) (once k)) in
    omega (arith, e, le)
  where
    few : (t v : ℕ) → t ≤ 1 → t * v ≤ v
    few t v h = let m : t * v ≤ 1 * v = mul-le-mul_right v h in omega (arith, m, one-mul v)

-- what follows it does not matter where a beginning is greater already
then_less : (o p : Ordering) → ordering_then o p ≡ Less → (o ≡ Less) ⊎ ((o ≡ Equal) × (p ≡ Less))
then_less Less p e = inl refl
then_less Equal p e = inr (refl, e)
then_less Greater p e = absurd (cc)

then_greater : (o p : Ordering) → ordering_then o p ≡ Greater → (o ≡ Greater) ⊎ ((o ≡ Equal) × (p ≡ Greater))
then_greater Less p e = absurd (cc)
then_greater Equal p e = inr (refl, e)
then_greater Greater p e = inl refl

-- a beginning that comes after another does not come before it, however it goes on
pub greater_stays : (p rest known : List ℕ) → slice_cmp nat_cmp p (take (length p) known) ≡ Greater → IsBefore (p ++ rest) known → ⊥
greater_stays [] rest known e before = absurd (cc)
greater_stays (x ∷ p) rest [] e before = absurd (cc)
greater_stays (x ∷ p) rest (y ∷ known) e before =
    elim (then_greater (nat_cmp x y) (slice_cmp nat_cmp p (take (length p) known)) e) [
      | inl more ↦ elim (then_less (nat_cmp x y) (slice_cmp nat_cmp (p ++ rest) known) before) [
        | inl less ↦ let z : Greater ≡ Less = sym more ∙ less in cc
        | inr tie ↦ let z : Greater ≡ Equal = sym more ∙ tie.0 in cc
      ]
      | inr tie ↦ elim (then_less (nat_cmp x y) (slice_cmp nat_cmp (p ++ rest) known) before) [
        | inl less ↦ let z : Equal ≡ Less = sym tie.0 ∙ less in cc
        | inr on ↦ greater_stays p rest known tie.1 on.1
      ]
    ]

-- the bound of a beginning by its last city
pub bound_is : (n : ℕ) (c : Costs) (out : ℕ → ℕ) (p : List ℕ) (left : ℕ) → left + sum_by out p ≡ sum_below n out → (a : ℕ) (q : List ℕ) →
    p ≡ 0 ∷ a ∷ q → bound n c out a q ≡ path_cost c p + out (last_of p) + left
bound_is n c out p left rest a q is =
    let l : last_of p ≡ end_of a q = ap last_of is ∙ last_at a q in
    let o : out (last_of p) ≡ out (end_of a q) = ap out l in
    let w : path_cost c p ≡ c 0 a + path c a q = ap (path_cost c) is in
    let m : sum_by out p ≡ sum_by out (0 ∷ a ∷ q) = ap (sum_by out) is in
    omega (arith, o, w, m, rest)

module _ (n : ℕ) (c : Costs) (out : ℕ → ℕ) (some : 0 < n) (ways : IsWayOut n c out) (p known : List ℕ) (left : ℕ)
    (is : IsBeginning n p) (rest : left + sum_by out p ≡ sum_below n out)
  where
    its_bound : (s : HasShape p) → bound n c out s.a s.q ≡ path_cost c p + out (last_of p) + left
    its_bound s = bound_is n c out p left rest s.a s.q s.is

    -- where the bound is above the best known tour, no continuation is better
    pub cut_above : cost c known < path_cost c p + out (last_of p) + left → (tour : List ℕ) → IsTour n tour → Continues p tour
        → IsAsGood c known tour
    cut_above exceeds tour of on =
        let s = shape n p is in
        let b = its_bound s in
        cut-above n c out s.a s.q known some ways (omega (arith, b, exceeds)) tour of (on.0, on.1 ∙ ap (λ z. z ++ on.0) s.is)

    -- where the bound ties and the beginning comes after that of the best known tour, no continuation is better
    pub cut_tie : cost c known ≤ path_cost c p + out (last_of p) + left → slice_cmp nat_cmp p (take (length p) known) ≡ Greater →
        (tour : List ℕ) → IsTour n tour → Continues p tour → IsAsGood c known tour
    cut_tie equals greater tour of on =
        let s = shape n p is in
        let b = its_bound s in
        cut-equal n c out s.a s.q known some ways (omega (arith, b, equals))
        (λ other is_tour goes before.
        greater_stays p goes.0 known greater (subst (λ z. IsBefore z known) (goes.1 ∙ ap (λ z. z ++ goes.0) (sym s.is)) before))
        tour of (on.0, on.1 ∙ ap (λ z. z ++ on.0) s.is)

-- it has no more cities than there are
below-one-each : (n : ℕ) → sum_below n (λ k. 1) ≡ n
unfolding sum_below
below-one-each zero = refl
below-one-each (suc n) = omega (arith, below-one-each n)

-- a beginning has at most as many cities as there are
pub short : (n : ℕ) (p : List ℕ) → IsBeginning n p → length p ≤ n
short n p is = omega (arith, sum-within n (λ x. 1) p is.once is.cities, length-ones p, below-one-each n)

-- the last city of a beginning is one of the cities
pub last_below : (n : ℕ) (p : List ℕ) → IsBeginning n p → last_of p < n
last_below n p is = let long = is.long in All-get_or (λ x. x < n) p (length p - 1) 0 (omega arith) is.cities

-- one city more is still within the sum of all
pub left_enough : (n : ℕ) (f : ℕ → ℕ) (p : List ℕ) (x left : ℕ) → IsBeginning n p → x < n → times x p ≡ 0
    → left + sum_by f p ≡ sum_below n f →
    f x ≤ left
left_enough n f p x left is below new rest =
    let more = longer n p x is below new in
    let all = sum-within n f (p ++ x ∷ []) more.once more.cities in
    omega (arith, all, sum_by-append f p (x ∷ []), rest)
