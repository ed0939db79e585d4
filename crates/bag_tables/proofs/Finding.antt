-- Where a search stops.
use Rattle.std.proofs.Common.{◌≡◌, ◌∙◌, sym, ℕ, zero, suc, ◌+◌, Bool, true, false, List, [], ◌∷◌, Option, Some, None, refl, ap, arith}
use Rattle.std.specs.Prelude.{position, option_map, MatchOption, filter, not, remove}
use Rattle.std.proofs.lemmas.Grind.{common_steps}
use Rattle.std.proofs.lemmas.Bool.Decides.{nat_tests}
use Rattle.bag_ledger.proofs.Tests.{some_is}
use Rattle.bag_tables.specs.Found.{IsFoundAt, IsAbsent}

-- a search stops at a head that passes
pub position_here : {X : Type 0} (test : X → Bool) (x : X) (xs : List X) → test x ≡ true → position test (x ∷ xs) ≡ Some 0
position_here test x xs is = rw is (grind (arith, common_steps, nat_tests))

-- a search goes past a head that fails
pub position_later : {X : Type 0} (test : X → Bool) (x : X) (xs : List X) → test x ≡ false
    → position test (x ∷ xs) ≡ option_map (λ n. n + 1) (position test xs)
position_later test x xs is = rw is (grind (arith, common_steps, nat_tests))

later : {X : Type 0} (test : X → Bool) (x : X) (xs : List X) (n : ℕ) → test x ≡ false → IsFoundAt test xs n
    → IsFoundAt test (x ∷ xs) (suc n)
later test x xs n fails r = record {
  inside = let inside = r.inside in omega arith;
  found = λ d. rw fails (r.found d);
  changed = λ f. rw fails (ap (λ l. x ∷ l) (r.changed f));
}

-- where a search stops, the element passes and none before it does
pub found_at : {X : Type 0} (test : X → Bool) (xs : List X) (place : ℕ) → position test xs ≡ Some place → IsFoundAt test xs place
found_at test [] place e = absurd (cc)
found_at test (x ∷ xs) place e = by_test (found_at test xs) (test x) refl
  where
    further : ((n : ℕ) → position test xs ≡ Some n → IsFoundAt test xs n) → test x ≡ false → (o : Option ℕ) → position test xs ≡ o
        → option_map (λ n. n + 1) o ≡ Some place → IsFoundAt test (x ∷ xs) place
    further rest fails None is e = absurd (cc)
    further rest fails (Some n) is e =
        let same : suc n ≡ place = let s : n + 1 ≡ place = some_is e in omega arith in
        rw (← same) (later test x xs n fails (rest n is))

    by_test : ((n : ℕ) → position test xs ≡ Some n → IsFoundAt test xs n) → (t : Bool) → test x ≡ t → IsFoundAt test (x ∷ xs) place
    by_test rest true is =
        let same : 0 ≡ place = some_is (sym (position_here test x xs is) ∙ e) in
        rw (← same) (record { inside = omega arith; found = λ d. rw is refl; changed = λ f. rw is refl })
    by_test rest false is = further rest is (position test xs) refl (sym (position_later test x xs is) ∙ e)

-- if a search finds nothing, no element passes
pub absent : {X : Type 0} (test : X → Bool) (xs : List X) → position test xs ≡ None → IsAbsent test xs
absent test [] e = record { found = refl; changed = λ f. refl }
absent test (x ∷ xs) e = by_test (absent test xs) (test x) refl
  where
    further : test x ≡ false → (position test xs ≡ None → IsAbsent test xs) → (o : Option ℕ) → position test xs ≡ o
        → option_map (λ n. n + 1) o ≡ None → IsAbsent test (x ∷ xs)
    further fails rest None is e = let r = rest is in
        record { found = rw fails r.found; changed = λ f. rw fails (ap (λ l. x ∷ l) (r.changed f)) }
    further fails rest (Some n) is e = absurd (cc)

    by_test : (position test xs ≡ None → IsAbsent test xs) → (t : Bool) → test x ≡ t → IsAbsent test (x ∷ xs)
    by_test rest true is = let some : None ≡ Some zero = sym e ∙ position_here test x xs is in absurd (cc some)
    by_test rest false is = further is rest (position test xs) refl (sym (position_later test x xs is) ∙ e)

-- what a search gives is where the element is found, if it is
pub searched : {X : Type 0} (test : X → Bool) (xs : List X) (o : Option ℕ) → o ≡ position test xs
    → MatchOption o (IsAbsent test xs) (λ place. IsFoundAt test xs place)
searched test xs None e = absent test xs (sym e)
searched test xs (Some place) e = found_at test xs place (sym e)

-- to remove an element that is not to stay leaves what is to stay
pub removed_keeps : {X : Type 0} (test : X → Bool) (xs : List X) (place : ℕ) → position test xs ≡ Some place
    → filter (λ x. not (test x)) (remove xs place) ≡ filter (λ x. not (test x)) xs
removed_keeps test [] place e = absurd (cc)
removed_keeps test (x ∷ xs) place e = by_test (removed_keeps test xs) (test x) refl
  where
    further : ((n : ℕ) → position test xs ≡ Some n → filter (λ x. not (test x)) (remove xs n) ≡ filter (λ x. not (test x)) xs)
        → test x ≡ false → (o : Option ℕ) → position test xs ≡ o → option_map (λ n. n + 1) o ≡ Some place
        → filter (λ x. not (test x)) (remove (x ∷ xs) place) ≡ filter (λ x. not (test x)) (x ∷ xs)
    further rest fails None is e = absurd (cc)
    further rest fails (Some n) is e =
        let same : suc n ≡ place = let s : n + 1 ≡ place = some_is e in omega arith in
        rw (← same, fails) (ap (λ l. x ∷ l) (rest n is))

    by_test : ((n : ℕ) → position test xs ≡ Some n → filter (λ x. not (test x)) (remove xs n) ≡ filter (λ x. not (test x)) xs) → (t : Bool)
        → test x ≡ t → filter (λ x. not (test x)) (remove (x ∷ xs) place) ≡ filter (λ x. not (test x)) (x ∷ xs)
    by_test rest true is =
        let same : 0 ≡ place = some_is (sym (position_here test x xs is) ∙ e) in
        rw (← same, is) refl
    by_test rest false is = further rest is (position test xs) refl (sym (position_later test x xs is) ∙ e)

-- where nothing is found all stays
pub absent_filter : {X : Type 0} (test : X → Bool) (xs : List X) → position test xs ≡ None → filter (λ x. not (test x)) xs ≡ xs
absent_filter test [] e = refl
absent_filter test (x ∷ xs) e = by_test (absent_filter test xs) (test x) refl
  where
    further : test x ≡ false → (position test xs ≡ None → filter (λ x. not (test x)) xs ≡ xs) → (o : Option ℕ) → position test xs ≡ o
        → option_map (λ n. n + 1) o ≡ None → filter (λ x. not (test x)) (x ∷ xs) ≡ x ∷ xs
    further fails rest None is e = rw fails (ap (λ l. x ∷ l) (rest is))
    further fails rest (Some n) is e = absurd (cc)

    by_test : (position test xs ≡ None → filter (λ x. not (test x)) xs ≡ xs) → (t : Bool) → test x ≡ t
        → filter (λ x. not (test x)) (x ∷ xs) ≡ x ∷ xs
    by_test rest true is = let some : None ≡ Some zero = sym e ∙ position_here test x xs is in absurd (cc some)
    by_test rest false is = further is rest (position test xs) refl (sym (position_later test x xs is) ∙ e)
