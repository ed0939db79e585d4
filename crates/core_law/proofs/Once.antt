-- Lists in which a test picks one element at most, and what is left without it.
use Rattle.std.proofs.Common.{◌≡◌, ◌≤◌, ℕ, ◌+◌, Bool, true, false, not, find, filter, List, [], ◌∷◌, sum_by, Some, None, refl, ap, arith}
use Rattle.std.proofs.lemmas.List.Sums.{sum_by-cons}
use Rattle.bag_ledger.proofs.Tests.{some_is}
use Rattle.core_law.specs.Letters.{one}

-- how many it picks
abbrev pub picked : {X : Type 0} → (X → Bool) → List X → ℕ
picked test xs = sum_by (λ x. one (test x)) xs

-- where a test picks no element, none is found
pub picked_none : {X : Type 0} (test : X → Bool) (xs : List X) → picked test xs ≡ 0 → find test xs ≡ None
picked_none test [] none = refl
picked_none test (x ∷ xs) none = by_test (picked_none test xs) (test x) refl
  where
    by_test : (picked test xs ≡ 0 → find test xs ≡ None) → (t : Bool) → test x ≡ t → find test (x ∷ xs) ≡ None
    by_test rest true is =
        let sum = sum_by-cons (λ y. one (test y)) x xs in let here : one (test x) ≡ 1 = rw is refl in absurd (omega arith)
    by_test rest false is =
        let sum = sum_by-cons (λ y. one (test y)) x xs in let here : one (test x) ≡ 0 = rw is refl in rw is (rest (omega arith))

-- where it picks none, all are left
pub all_left : {X : Type 0} (test : X → Bool) (xs : List X) → find test xs ≡ None → filter (λ x. not (test x)) xs ≡ xs
all_left test [] none = refl
all_left test (x ∷ xs) none = by_test (all_left test xs) (test x) refl none
  where
    by_test : (find test xs ≡ None → filter (λ y. not (test y)) xs ≡ xs) → (t : Bool) → test x ≡ t → find test (x ∷ xs) ≡ None
        → filter (λ y. not (test y)) (x ∷ xs) ≡ x ∷ xs
    by_test rest true is none = let found : Some x ≡ None = rw is at none in absurd (cc)
    by_test rest false is none =
        let later : find test xs ≡ None = rw is at none in rw is (ap (λ ys. x ∷ ys) (rest later))

-- without the one that it picks the sum is less by its weight
pub gone_sum : {X : Type 0} (test : X → Bool) (f : X → ℕ) (xs : List X) (p : X) → picked test xs ≤ 1 → find test xs ≡ Some p
    → sum_by f (filter (λ x. not (test x)) xs) + f p ≡ sum_by f xs
gone_sum test f [] p few found = absurd (cc)
gone_sum {X} test f (x ∷ xs) p few found = by_test (gone_sum test f xs p) (test x) refl found
  where
    count : picked test (x ∷ xs) ≡ one (test x) + picked test xs
    count = sum_by-cons (λ y. one (test y)) x xs

    by_test : (picked test xs ≤ 1 → find test xs ≡ Some p → sum_by f (filter (λ y. not (test y)) xs) + f p ≡ sum_by f xs)
        → (t : Bool) → test x ≡ t → find test (x ∷ xs) ≡ Some p
        → sum_by f (filter (λ y. not (test y)) (x ∷ xs)) + f p ≡ sum_by f (x ∷ xs)
    by_test rest true is found =
        let here : x ≡ p = some_is (rw is at found) in
        let its : one (test x) ≡ 1 = rw is refl in
        let stay = all_left test xs (picked_none test xs (omega (arith, count, few, its))) in
        rw (is, stay, sum_by-cons f x xs, ← here) (omega arith)
    by_test rest false is found =
        let later : find test xs ≡ Some p = rw is at found in
        let its : one (test x) ≡ 0 = rw is refl in
        let same = rest (omega (arith, count, few, its)) later in
        rw (is, sum_by-cons f x (filter (λ y. not (test y)) xs), sum_by-cons f x xs) (omega arith)
