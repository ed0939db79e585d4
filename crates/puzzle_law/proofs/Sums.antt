-- Sums and counts over lists.
use Rattle.std.proofs.Common.{◌≡◌, ◌≤◌, ◌+◌, ℕ, Bool, true, false, cond, ◌||◌, List, [], ◌∷◌, length, map, refl, ap, arith, count_by}
use Rattle.std.proofs.Common.{sum_by}
use Rattle.std.specs.List.{flat_map, list_any}
use Rattle.std.proofs.lemmas.Bool.{or_parts}
use Rattle.std.proofs.lemmas.List.Folds.{fold-map}
use Rattle.std.proofs.lemmas.List.Sums.{sum_by-append, sum_by-cons}

-- what one element adds to a count
abbrev pub one_if : {X : Type 0} → (X → Bool) → X → ℕ
one_if p x = cond (p x) 1 0

-- a test counts one at most
pub at_most_one : (b : Bool) → cond b 1 0 ≤ 1
at_most_one true = omega arith
at_most_one false = omega arith

-- a list of one element, counted
pub count_one : {X : Type 0} (p : X → Bool) (x : X) → count_by p (x ∷ []) ≡ one_if p x
count_one p x = omega (arith, sum_by-cons (one_if p) x [])

-- a sum over mapped elements
pub sum_map : {X Y : Type 0} (f : Y → ℕ) (h : X → Y) (xs : List X) → sum_by f (map h xs) ≡ sum_by (λ x. f (h x)) xs
sum_map f h xs = fold-map (λ a y. a + f y) h 0 xs

-- over lists end to end
pub sum_flat : {X Y : Type 0} (f : Y → ℕ) (h : X → List Y) (xs : List X) → sum_by f (flat_map h xs) ≡ sum_by (λ x. sum_by f (h x)) xs
sum_flat f h [] = refl
sum_flat f h (x ∷ xs) = omega (arith, sum_by-append f (h x) (flat_map h xs), sum_by-cons (λ y. sum_by f (h y)) x xs, sum_flat f h xs)

-- a sum of zeros
pub sum_none : {X : Type 0} (xs : List X) → sum_by (λ x. 0) xs ≡ 0
sum_none [] = refl
sum_none (x ∷ xs) = omega (arith, sum_by-cons (λ y. 0) x xs, sum_none xs)

-- where all count or none does
pub sum_if : {X : Type 0} (b : Bool) (f : X → ℕ) (xs : List X) → sum_by (λ x. cond b (f x) 0) xs ≡ cond b (sum_by f xs) 0
sum_if true f xs = refl
sum_if false f xs = sum_none xs

-- two numbers that count by one test
pub add_if : (b : Bool) (m n : ℕ) → cond b m 0 + cond b n 0 ≡ cond b (m + n) 0
add_if true m n = refl
add_if false m n = omega arith

-- nothing either way
pub none_if : (b : Bool) → cond {A = ℕ} b 0 0 ≡ 0
none_if true = refl
none_if false = refl

-- one more of each
pub sum_one_more : {X : Type 0} (f : X → ℕ) (xs : List X) → sum_by (λ x. 1 + f x) xs ≡ length xs + sum_by f xs
sum_one_more f [] = refl
sum_one_more f (x ∷ xs) = omega (arith, sum_by-cons (λ y. 1 + f y) x xs, sum_by-cons f x xs, sum_one_more f xs)

-- Some element passes just where the count is positive.

-- if some element passes, at least one is counted
pub some_counted : {X : Type 0} (p : X → Bool) (xs : List X) → list_any p xs ≡ true → 1 ≤ count_by p xs
some_counted p [] some = absurd (cc)
some_counted p (x ∷ xs) some = omega (arith, sum_by-cons (one_if p) x xs, here (p x) some (some_counted p xs))
  where
    here : (b : Bool) → (b || list_any p xs) ≡ true → (list_any p xs ≡ true → 1 ≤ count_by p xs) → 1 ≤ cond b 1 0 + count_by p xs
    here true e later = omega arith
    here false e later = omega (arith, later e)

-- if no element passes, 0 are counted
pub none_counted : {X : Type 0} (p : X → Bool) (xs : List X) → list_any p xs ≡ false → count_by p xs ≡ 0
none_counted p [] none = refl
none_counted p (x ∷ xs) none =
    let parts = or_parts (p x) (list_any p xs) none in
    let one : Bool → ℕ = λ b. cond b 1 0 in
    let here : one_if p x ≡ 0 = ap one parts.0 in
    omega (arith, sum_by-cons (one_if p) x xs, here, none_counted p xs parts.1)
