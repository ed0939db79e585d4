-- Lists of different elements that have the elements of one another.
use Rattle.std.proofs.Common.{◌≡◌, ◌≢◌, suc, List, [], ◌∷◌, length, sym, ◌∙◌, refl, All, Contains, arith, inl, inr}
use Rattle.std.specs.List.{AllPairs, remove}
use Rattle.std.specs.List.Sorted.{IsPermutation}
use Rattle.std.proofs.lemmas.List.Elements.{All-contains}
use Rattle.std.proofs.lemmas.List.Sorted.{Contains-permutation, IsPermutation-cons, IsPermutation-refl, IsPermutation-remove}
use Rattle.std.proofs.lemmas.List.Sorted.{IsPermutation-sym, IsPermutation-trans, length_permutation}
use Rattle.std.proofs.lemmas.List.Edits.{length-remove}
use Rattle.slab.proofs.SlabLemmas.{Contains-cons, Contains-cons_cases}

-- a list of different elements, each of another list as long, has the elements of that one
pub same_members : {X : Type 0} (xs ys : List X) → AllPairs (λ a b. a ≢ b) xs → ((e : X) → Contains xs e → Contains ys e)
    → length xs ≡ length ys → IsPermutation xs ys
same_members [] [] differ member long = IsPermutation-refl []
same_members [] (y ∷ ys) differ member long = absurd (omega (arith, long))
same_members {X} (x ∷ xs) ys differ member long =
    let there = member x (0, omega arith, refl) in
    let found : IsPermutation ys (x ∷ remove ys there.0) = IsPermutation-remove ys there.0 x there.1 (sym there.2) in
    let short = length-remove ys there.0 there.1 in
    let apart : (e : X) → Contains xs e → x ≢ e =
    λ e in_rest same. differ 0 (suc in_rest.0) e (omega arith) (omega (arith, in_rest.1)) (same ∙ sym in_rest.2) in
    let rest : IsPermutation xs (remove ys there.0) =
    same_members xs (remove ys there.0) (λ i j d before within. differ (suc i) (suc j) d (omega arith) (omega arith))
    (λ e in_rest.
    elim (Contains-cons_cases x e (remove ys there.0)
    (Contains-permutation ys (x ∷ remove ys there.0) e found (member e (Contains-cons x e xs in_rest)))) [
      | inl same ↦ absurd (apart e in_rest same)
      | inr later ↦ later
    ])
    (omega (arith, long, short)) in
    IsPermutation-trans (x ∷ xs) (x ∷ remove ys there.0) ys (IsPermutation-cons x xs (remove ys there.0) rest)
    (IsPermutation-sym ys (x ∷ remove ys there.0) found)

-- what is left when the first element, which stands there but once, is taken from both
pub first_cancelled : {X : Type 0} (x : X) (xs ys : List X) → AllPairs (λ a b. a ≢ b) xs → All (λ y. y ≢ x) xs
    → IsPermutation (x ∷ xs) (x ∷ ys) → IsPermutation xs ys
first_cancelled {X} x xs ys differ gone same =
    let G : X → Type 0 = λ y. y ≢ x in
    let long = length_permutation (x ∷ xs) (x ∷ ys) same in
    same_members xs ys differ
    (λ e there. elim (Contains-cons_cases x e ys (Contains-permutation (x ∷ xs) (x ∷ ys) e same (Contains-cons x e xs there))) [
      | inl is ↦ absurd (All-contains G xs e gone there (sym is))
      | inr later ↦ later
    ])
    (omega (arith, long))
