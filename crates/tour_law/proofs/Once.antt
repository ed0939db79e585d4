-- Lists in which each number is there once at most, and sums over tours.
use Rattle.std.proofs.Common.{◌≡◌, ◌<◌, ◌≤◌, ◌+◌, ◌*◌, ◌==◌, ℕ, zero, suc, Bool, true, false, cond, List, [], ◌∷◌, ◌++◌, length, All}
use Rattle.std.proofs.Common.{count_by, refl, sym, ap, ◌∙◌, arith, inl, inr, ◌⊎◌, zero-add}
use Rattle.std.specs.Prelude.{sum_by}
use Rattle.std.proofs.Math.Nat.{add-mul, one-mul, zero-mul}
use Rattle.std.proofs.lemmas.Bool.{eq-eqb, ne_eqb, cases_eq, cases_lt}
use Rattle.std.proofs.lemmas.List.Elements.{All-head, All-tail}
use Rattle.std.proofs.lemmas.List.Sums.{sum_by-cons, sum_by-append}
use Rattle.tour_law.specs.Tours.{IsTour}
use Rattle.tour_law.specs.Search.{sum_below}
use Rattle.tour_law.specs.Beginnings.{IsOnce}

-- how often a city is in a list
abbrev pub times : ℕ → List ℕ → ℕ
times city xs = count_by (λ x. x == city) xs

-- a head that is the city counts one more
pub times-same : (x : ℕ) (xs : List ℕ) → times x (x ∷ xs) ≡ 1 + times x xs
times-same x xs =
    sum_by-cons (λ y. cond (y == x) 1 0) x xs ∙ ap (λ (b : Bool). cond b 1 0 + times x xs) (eq-eqb x x refl)

-- a head that is another city counts nothing
pub times-other : (x city : ℕ) (xs : List ℕ) → (x ≡ city → ⊥) → times city (x ∷ xs) ≡ times city xs
times-other x city xs other =
    let e : times city (x ∷ xs) ≡ 0 + times city xs =
    sum_by-cons (λ y. cond (y == city) 1 0) x xs ∙ ap (λ (b : Bool). cond b 1 0 + times city xs) (ne_eqb x city other) in
    omega (arith, e)

-- a longer list has a city at least as many times
pub times-more : (x city : ℕ) (xs : List ℕ) → times city xs ≤ times city (x ∷ xs)
times-more x city xs = let e = sum_by-cons (λ y. cond (y == city) 1 0) x xs in omega (arith, e)

-- without its head a list has each city once at most
pub once-rest : (x : ℕ) (xs : List ℕ) → IsOnce (x ∷ xs) → IsOnce xs
once-rest x xs once city = omega (arith, times-more x city xs, once city)

-- a list without a city has a tail without it
pub none-rest : (x city : ℕ) (xs : List ℕ) → times city (x ∷ xs) ≡ 0 → times city xs ≡ 0
none-rest x city xs none = omega (arith, times-more x city xs)

-- an element is no other than itself
pub none-head : (x city : ℕ) (xs : List ℕ) → times city (x ∷ xs) ≡ 0 → x ≡ city → ⊥
none-head x city xs none same =
    let e : times city (x ∷ xs) ≡ times x (x ∷ xs) = ap (λ k. times k (x ∷ xs)) (sym same) in
    omega (arith, e, times-same x xs)

-- the first two cities differ
pub once-next : (x y : ℕ) (xs : List ℕ) → IsOnce (x ∷ y ∷ xs) → x ≡ y → ⊥
once-next x y xs once same =
    let e : times x (y ∷ xs) ≡ times y (y ∷ xs) = ap (λ k. times k (y ∷ xs)) same in
    omega (arith, e, once x, times-same x (y ∷ xs), times-same y xs)

-- Sums below a number.

-- sums of equal terms are equal
pub below-same : (n : ℕ) (f g : ℕ → ℕ) → ((k : ℕ) → k < n → f k ≡ g k) → sum_below n f ≡ sum_below n g
unfolding sum_below
below-same zero f g same = refl
below-same (suc n) f g same =
    let rest = below-same n f g (λ k below. same k (omega arith)) in
    let here = same n (omega arith) in
    omega (arith, rest, here)

below-add : (n : ℕ) (f g : ℕ → ℕ) → sum_below n (λ k. f k + g k) ≡ sum_below n f + sum_below n g
unfolding sum_below
below-add zero f g = refl
below-add (suc n) f g = omega (arith, below-add n f g)

below-zero : (n : ℕ) → sum_below n (λ k. 0) ≡ 0
unfolding sum_below
below-zero zero = refl
below-zero (suc n) = omega (arith, below-zero n)

-- what one element weighs
below-none : (n x : ℕ) (f : ℕ → ℕ) → n ≤ x → sum_below n (λ k. cond (x == k) (f k) 0) ≡ 0
unfolding sum_below
below-none zero x f past = refl
below-none (suc n) x f past =
    let other : cond (x == n) (f n) 0 ≡ 0 = ap (λ (b : Bool). cond b (f n) 0) (ne_eqb x n (λ e. omega arith)) in
    omega (arith, below-none n x f (omega arith), other)

at-last : (n x : ℕ) (f : ℕ → ℕ) → x ≡ n → cond (x == n) (f n) 0 ≡ f x
at-last n x f e = ap (λ (b : Bool). cond b (f n) 0) (eq-eqb x n e) ∙ ap f (sym e)

below-one : (n x : ℕ) (f : ℕ → ℕ) → x < n → sum_below n (λ k. cond (x == k) (f k) 0) ≡ f x
unfolding sum_below
below-one zero x f within = absurd (omega arith)
below-one (suc n) x f within = elim (lt-or-eq x n within) [
  | inl less ↦
      let other : cond (x == n) (f n) 0 ≡ 0 = ap (λ (b : Bool). cond b (f n) 0) (ne_eqb x n (λ e. omega arith)) in
      omega (arith, below-one n x f less, other)
  | inr same ↦ omega (arith, below-none n x f (omega arith), at-last n x f same)
]
  where
    lt-or-eq : (x n : ℕ) → x < suc n → (x < n) ⊎ (x ≡ n)
    lt-or-eq x n l = elim (cases_eq x n) [ inl e ↦ inr e | inr d ↦ inl (omega arith) ]

-- The sum over a list whose elements are below n, by how often each is there.

one-more : (b : Bool) (t v : ℕ) → (cond b 1 0 + t) * v ≡ cond b v 0 + t * v
one-more true t v = add-mul 1 t v ∙ ap (λ z. z + t * v) (one-mul v)
one-more false t v = omega (arith, ap (λ z. z * v) (zero-add t))

-- a sum over cities counts each as often as it is there
pub sum-times : (n : ℕ) (f : ℕ → ℕ) (xs : List ℕ) → All (λ x. x < n) xs → sum_by f xs ≡ sum_below n (λ k. times k xs * f k)
sum-times n f [] within = sym (below-same n (λ k. times k [] * f k) (λ k. 0) (λ k below. zero-mul (f k)) ∙ below-zero n)
sum-times n f (x ∷ xs) within =
    let first : x < n = All-head (λ y. y < n) x xs within in
    let rest = sum-times n f xs (All-tail (λ y. y < n) x xs within) in
    let each = below-same n (λ k. times k (x ∷ xs) * f k) (λ k. cond (x == k) (f k) 0 + times k xs * f k) (λ k below.
    ap (λ z. z * f k) (sum_by-cons (λ y. cond (y == k) 1 0) x xs) ∙ one-more (x == k) (times k xs) (f k)) in
    omega (
      arith,
      sum_by-cons f x xs,
      each,
      below-add n (λ k. cond (x == k) (f k) 0) (λ k. times k xs * f k),
      below-one n x f first,
      rest,
    )

-- over a tour it is the sum over all cities
pub sum-tour : (n : ℕ) (f : ℕ → ℕ) (tour : List ℕ) → IsTour n tour → sum_by f tour ≡ sum_below n f
sum-tour n f tour is =
    sum-times n f tour is.cities
    ∙ below-same n (λ k. times k tour * f k) f (λ k below. ap (λ t. t * f k) (is.once k below) ∙ one-mul (f k))

-- no city is there twice
none-past : (n city : ℕ) (xs : List ℕ) → All (λ x. x < n) xs → n ≤ city → times city xs ≡ 0
none-past n city [] within past = refl
none-past n city (x ∷ xs) within past =
    let first : x < n = All-head (λ y. y < n) x xs within in
    times-other x city xs (λ e. omega arith) ∙ none-past n city xs (All-tail (λ y. y < n) x xs within) past

-- a tour has each city once at most
pub tour-once : (n : ℕ) (tour : List ℕ) → IsTour n tour → IsOnce tour
tour-once n tour is city = elim (cases_lt city n) [
  | inl below ↦ omega (arith, is.once city below)
  | inr past ↦ omega (arith, none-past n city tour is.cities past)
]

-- a tour has as many elements as there are cities
length-ones : (xs : List ℕ) → sum_by (λ x. 1) xs ≡ length xs
length-ones [] = refl
length-ones (x ∷ xs) = omega (arith, sum_by-cons (λ (y : ℕ). 1) x xs, length-ones xs)

below-ones : (n : ℕ) → sum_below n (λ k. 1) ≡ n
unfolding sum_below
below-ones zero = refl
below-ones (suc n) = omega (arith, below-ones n)

-- a tour has as many cities as there are
pub tour-long : (n : ℕ) (tour : List ℕ) → IsTour n tour → length tour ≡ n
tour-long n tour is = omega (arith, length-ones tour, sum-tour n (λ k. 1) tour is, below-ones n)
