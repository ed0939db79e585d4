-- The first element of a list that passes a test.
use Rattle.std.proofs.Common.{◌≡◌, ◌<◌, ℕ, zero, suc, Bool, true, false, List, [], ◌∷◌, length, get_or, Some, None, refl, sym, ap, ◌∙◌, All}
use Rattle.std.proofs.Common.{arith, inl, inr, find}
use Rattle.std.specs.List.{position_or_len, slice_get}
use Rattle.std.proofs.lemmas.List.Folds.{find_at}
use Rattle.std.proofs.lemmas.List.Sums.{fails_before_first, passes_at_first}
use Rattle.std.proofs.lemmas.Option.{get_or_from_slice_get, none-some, same_Some, slice_get_cases, slice_get_within}

-- x is at this place and passes, and what comes before does not
pub record IsFirst {X : Type 0} (test : X → Bool) (xs : List X) (x : X) : Type 0 where
  pub place : ℕ
  pub here : slice_get xs place ≡ Some x
  pub within : place < length xs
  pub read : get_or xs place x ≡ x
  pub passes : test x ≡ true
  pub fails : (k : ℕ) (d : X) → k < place → test (get_or xs k d) ≡ false

-- what is found is the first that passes
pub find_first : {X : Type 0} (test : X → Bool) (xs : List X) (x : X) → find test xs ≡ Some x → IsFirst test xs x
find_first test xs x found =
    let place = position_or_len test xs in
    let at : slice_get xs place ≡ Some x = sym (find_at test xs) ∙ found in
    let within : place < length xs = slice_get_within xs place x at in
    let here : get_or xs place x ≡ x = get_or_from_slice_get xs place x x at in
    record {
      place = place;
      here = at;
      within = within;
      read = here;
      passes = ap test (sym here) ∙ passes_at_first test xs x within;
      fails = λ k d before. fails_before_first test xs k d before;
    }

-- if nothing is found, no element passes
pub find_none : {X : Type 0} (test : X → Bool) (xs : List X) → find test xs ≡ None → All (λ x. test x ≡ false) xs
find_none test xs none k d within =
    let at : slice_get xs (position_or_len test xs) ≡ None = sym (find_at test xs) ∙ none in
    elim (slice_get_cases xs (position_or_len test xs)).1 [
      | inl h ↦ absurd (none-some h.0 (sym at ∙ h.2))
      | inr h ↦ fails_before_first test xs k d (omega (arith, h.0))
    ]

-- the other way
pub is_found : {X : Type 0} (test : X → Bool) (xs : List X) (place : ℕ) (x : X) → slice_get xs place ≡ Some x → test x ≡ true
    → ((k : ℕ) (y : X) → k < place → slice_get xs k ≡ Some y → test y ≡ false) → find test xs ≡ Some x
is_found test [] place x at is fails = absurd (none-some x at)
is_found test (y ∷ xs) zero x at is fails =
    let same : y ≡ x = same_Some y x at in
    let here : test y ≡ true = ap test same ∙ is in
    rw here at
is_found test (y ∷ xs) (suc place) x at is fails =
    let here = fails zero y (omega arith) refl in
    rw here (is_found test xs place x at is (λ k z before there. fails (suc k) z (omega arith) there))

-- if no element passes, nothing is found
pub none_found : {X : Type 0} (test : X → Bool) (xs : List X) → ((k : ℕ) (y : X) → slice_get xs k ≡ Some y → test y ≡ false)
    → find test xs ≡ None
none_found test [] fails = refl
none_found test (y ∷ xs) fails = rw (fails zero y refl) (none_found test xs (λ k z there. fails (suc k) z there))
