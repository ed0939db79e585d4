-- What a change, an append and a filter do to a look-up and to a sum.
use Rattle.std.proofs.Common.{◌≡◌, ℕ, ◌+◌, ◌≤◌, ◌⊎◌, inl, inr, Bool, true, false, not, List, [], ◌∷◌, ◌++◌, find, filter, sum_by, Some}
use Rattle.std.proofs.Common.{None, refl, arith}
use Rattle.std.proofs.lemmas.List.Sums.{sum_by-cons}
use Rattle.std.proofs.lemmas.List.Folds.{find-append}
use Rattle.bag_ledger.specs.Steps.{change_first}
use Rattle.bag_ledger.proofs.Tests.{some_is}

-- the element that is changed is found as changed
pub find_changed : {X : Type 0} (f : X → X) (test : X → Bool) → ((x : X) → test (f x) ≡ test x) → (xs : List X) (x : X)
    → find test xs ≡ Some x → find test (change_first f test xs) ≡ Some (f x)
find_changed f test keeps [] x e = absurd (cc)
find_changed f test keeps (y ∷ ys) x e = by_test (find_changed f test keeps ys x) (test y) refl e
  where
    by_test : (find test ys ≡ Some x → find test (change_first f test ys) ≡ Some (f x)) → (t : Bool) → test y ≡ t
        → find test (y ∷ ys) ≡ Some x → find test (change_first f test (y ∷ ys)) ≡ Some (f x)
    by_test rest true is found = let here : y ≡ x = some_is (rw is at found) in rw (is, keeps y, is, here) refl
    by_test rest false is found = let later : find test ys ≡ Some x = rw is at found in rw (is, is) (rest later)

-- what another test finds stays
pub find_other : {X : Type 0} (f : X → X) (test other : X → Bool) → ((x : X) → other (f x) ≡ other x)
    → ((x : X) → test x ≡ true → other x ≡ false) → (xs : List X) → find other (change_first f test xs) ≡ find other xs
find_other f test other keeps apart [] = refl
find_other f test other keeps apart (y ∷ ys) = by_test (find_other f test other keeps apart ys) (test y) refl
  where
    by_test : find other (change_first f test ys) ≡ find other ys → (t : Bool) → test y ≡ t
        → find other (change_first f test (y ∷ ys)) ≡ find other (y ∷ ys)
    by_test rest true is = rw (is, keeps y, apart y is) refl
    by_test rest false is = rw (is, rest) refl

-- what is found in a list is found in it after an append
pub find_before : {X : Type 0} (test : X → Bool) (xs ys : List X) (x : X) → find test xs ≡ Some x → find test (xs ++ ys) ≡ Some x
find_before test xs ys x e = rw (find-append test xs ys, e) refl

-- what is found after an append of one element was found before, or is that element
pub find_appended : {X : Type 0} (test : X → Bool) (xs : List X) (y x : X) → find test (xs ++ y ∷ []) ≡ Some x
    → (find test xs ≡ Some x) ⊎ ((test y ≡ true) × (y ≡ x))
find_appended test [] y x e = by_test (test y) refl e
  where
    by_test : (t : Bool) → test y ≡ t → find test (y ∷ []) ≡ Some x → (find test [] ≡ Some x) ⊎ ((test y ≡ true) × (y ≡ x))
    by_test true is found = inr (is, some_is (rw is at found))
    by_test false is found = let none : None ≡ Some x = rw is at found in absurd (cc)
find_appended test (z ∷ zs) y x e = by_test (find_appended test zs y x) (test z) refl e
  where
    by_test : (find test (zs ++ y ∷ []) ≡ Some x → (find test zs ≡ Some x) ⊎ ((test y ≡ true) × (y ≡ x))) → (t : Bool) → test z ≡ t
        → find test (z ∷ zs ++ y ∷ []) ≡ Some x → (find test (z ∷ zs) ≡ Some x) ⊎ ((test y ≡ true) × (y ≡ x))
    by_test rest true is found = inl (rw is (rw is at found))
    by_test rest false is found = rw is (rest (rw is at found))

-- after a filter that drops what passes a test, nothing is found by it
pub find_filtered : {X : Type 0} (test : X → Bool) (xs : List X) → find test (filter (λ x. not (test x)) xs) ≡ None
find_filtered test [] = refl
find_filtered test (y ∷ ys) = by_test (find_filtered test ys) (test y) refl
  where
    by_test : find test (filter (λ x. not (test x)) ys) ≡ None → (t : Bool) → test y ≡ t
        → find test (filter (λ x. not (test x)) (y ∷ ys)) ≡ None
    by_test rest true is = rw is rest
    by_test rest false is = rw (is, is) rest

-- a filter leaves what another test finds, if no dropped element passes that one
pub find_unfiltered : {X : Type 0} (test other : X → Bool) → ((x : X) → test x ≡ true → other x ≡ false) → (xs : List X)
    → find other (filter (λ x. not (test x)) xs) ≡ find other xs
find_unfiltered test other apart [] = refl
find_unfiltered test other apart (y ∷ ys) = by_test (find_unfiltered test other apart ys) (test y) refl
  where
    by_test : find other (filter (λ x. not (test x)) ys) ≡ find other ys → (t : Bool) → test y ≡ t
        → find other (filter (λ x. not (test x)) (y ∷ ys)) ≡ find other (y ∷ ys)
    by_test rest true is = rw (is, apart y is) rest
    by_test rest false is = rw (is, rest) refl

-- a sum changes by the change of the element that was found
pub sum_changed : {X : Type 0} (f : X → ℕ) (g : X → X) (test : X → Bool) (xs : List X) (x : X) → find test xs ≡ Some x
    → sum_by f (change_first g test xs) + f x ≡ sum_by f xs + f (g x)
sum_changed f g test [] x found = absurd (cc)
sum_changed f g test (y ∷ ys) x found = by_test (sum_changed f g test ys x) (test y) refl found
  where
    by_test : (find test ys ≡ Some x → sum_by f (change_first g test ys) + f x ≡ sum_by f ys + f (g x)) → (t : Bool) → test y ≡ t
        → find test (y ∷ ys) ≡ Some x → sum_by f (change_first g test (y ∷ ys)) + f x ≡ sum_by f (y ∷ ys) + f (g x)
    by_test rest true is found =
        let here : y ≡ x = some_is (rw is at found) in
        rw (is, sum_by-cons f (g y) ys, sum_by-cons f y ys, here) (omega arith)
    by_test rest false is found =
        let later : find test ys ≡ Some x = rw is at found in
        rw (is, sum_by-cons f y (change_first g test ys), sum_by-cons f y ys) (omega (arith, rest later))

-- and does not rise where no element rises
pub sum_lowered : {X : Type 0} (f : X → ℕ) (g : X → X) (test : X → Bool) → ((x : X) → f (g x) ≤ f x) → (xs : List X)
    → sum_by f (change_first g test xs) ≤ sum_by f xs
sum_lowered f g test low [] = omega arith
sum_lowered f g test low (y ∷ ys) = by_test (sum_lowered f g test low ys) (test y) refl
  where
    by_test : sum_by f (change_first g test ys) ≤ sum_by f ys → (t : Bool) → test y ≡ t
        → sum_by f (change_first g test (y ∷ ys)) ≤ sum_by f (y ∷ ys)
    by_test rest true is = rw (is, sum_by-cons f (g y) ys, sum_by-cons f y ys) (omega (arith, low y))
    by_test rest false is = rw (is, sum_by-cons f y (change_first g test ys), sum_by-cons f y ys) (omega (arith, rest))

sum_filter : {X : Type 0} (f : X → ℕ) (p : X → Bool) (xs : List X) → sum_by f (filter p xs) ≤ sum_by f xs
sum_filter f p [] = omega arith
sum_filter f p (y ∷ ys) = by_test (sum_filter f p ys) (p y) refl
  where
    by_test : sum_by f (filter p ys) ≤ sum_by f ys → (t : Bool) → p y ≡ t → sum_by f (filter p (y ∷ ys)) ≤ sum_by f (y ∷ ys)
    by_test rest true is = rw (is, sum_by-cons f y (filter p ys), sum_by-cons f y ys) (omega (arith, rest))
    by_test rest false is = rw (is, sum_by-cons f y ys) (omega (arith, rest))

-- a filter takes off at least the element that was found
pub sum_filtered : {X : Type 0} (f : X → ℕ) (test : X → Bool) (xs : List X) (x : X) → find test xs ≡ Some x
    → sum_by f (filter (λ y. not (test y)) xs) + f x ≤ sum_by f xs
sum_filtered f test [] x found = absurd (cc)
sum_filtered f test (y ∷ ys) x found = by_test (sum_filtered f test ys x) (sum_filter f (λ y. not (test y)) ys) (test y) refl found
  where
    by_test : (find test ys ≡ Some x → sum_by f (filter (λ y. not (test y)) ys) + f x ≤ sum_by f ys)
        → sum_by f (filter (λ y. not (test y)) ys) ≤ sum_by f ys → (t : Bool) → test y ≡ t → find test (y ∷ ys) ≡ Some x
        → sum_by f (filter (λ y. not (test y)) (y ∷ ys)) + f x ≤ sum_by f (y ∷ ys)
    by_test rest less true is found =
        let here : y ≡ x = some_is (rw is at found) in
        rw (is, sum_by-cons f y ys, here) (omega (arith, less))
    by_test rest less false is found =
        let later : find test ys ≡ Some x = rw is at found in
        rw (is, sum_by-cons f y (filter (λ y. not (test y)) ys), sum_by-cons f y ys) (omega (arith, rest later))
