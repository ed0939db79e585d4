-- What a list contains, and lists without repeats.
use Rattle.std.specs.List.{AllPairs}
use Rattle.std.proofs.Common.{◌≡◌, ◌≢◌, ◌<◌, ℕ, zero, suc, Bool, true, List, [], ◌∷◌, ◌++◌, length, get_or, refl, sym, ap, ◌∙◌, arith, inl}
use Rattle.std.proofs.Common.{inr, ◌⊎◌, Contains, subst, filter}
use Rattle.std.proofs.lemmas.List.Elements.{Contains-append_cases, Contains-get_or}
use Rattle.std.proofs.lemmas.List.Kept.{AllPairs-cons}
use Rattle.std.proofs.lemmas.Bool.{cond_both}

-- a list contains its first element
pub Contains-head : {X : Type 0} (x : X) (xs : List X) → Contains (x ∷ xs) x
Contains-head x xs = (0, omega arith, refl)

-- a list contains what its rest contains
pub Contains-later : {X : Type 0} (y x : X) (xs : List X) → Contains xs x → Contains (y ∷ xs) x
Contains-later y x xs there = (suc there.0, omega (arith, there.1), there.2)

-- what a list contains is its first element, or in its rest
pub head_cases : {X : Type 0} (y x : X) (xs : List X) → Contains (y ∷ xs) x → (y ≡ x) ⊎ Contains xs x
head_cases {X} y x xs there = at there.0 there.1 there.2
  where
    at : (k : ℕ) → k < suc (length xs) → get_or (y ∷ xs) k x ≡ x → (y ≡ x) ⊎ Contains xs x
    at zero below is = inl is
    at (suc k) below is = inr (k, omega arith, is)

-- an empty list contains nothing
pub none_there : {X : Type 0} (x : X) → Contains [] x → ⊥
none_there x there = omega (arith, there.1)

-- a list of one element contains that alone
pub only : {X : Type 0} (y x : X) → Contains (y ∷ []) x → y ≡ x
only y x there = elim (head_cases y x [] there) [
  | inl same ↦ same
  | inr later ↦ absurd (none_there x later)
]

-- what passes the test stays
pub Contains-filter : (p : ℕ → Bool) (xs : List ℕ) (x : ℕ) → Contains xs x → p x ≡ true → Contains (filter p xs) x
Contains-filter p [] x there passes = absurd (none_there x there)
Contains-filter p (y ∷ xs) x there passes =
    let P : List ℕ → Type 0 = λ l. Contains l x in
    elim (head_cases y x xs there) [
      | inl same ↦ let t : p y ≡ true = ap p same ∙ passes in
          rw t (let e : Contains (y ∷ filter p xs) x =
          subst (λ z. Contains (z ∷ filter p xs) x) (sym same) (Contains-head x (filter p xs)) in e)
      | inr later ↦ cond_both (p y) (y ∷ filter p xs) (filter p xs) P
          (λ t. Contains-later y x (filter p xs) (Contains-filter p xs x later passes)) (λ f. Contains-filter p xs x later passes)
    ]

-- no element is there twice
abbrev pub IsDistinct : {X : Type 0} → List X → Type 0
IsDistinct [] = Unit {0}
IsDistinct (x ∷ xs) = (Contains xs x → ⊥) × IsDistinct xs

-- lists without repeats that share nothing, joined, have no repeats
pub distinct_append : {X : Type 0} (xs ys : List X) → IsDistinct xs → IsDistinct ys → ((x : X) → Contains xs x → Contains ys x → ⊥)
    → IsDistinct (xs ++ ys)
distinct_append [] ys dx dy apart = dy
distinct_append (x ∷ xs) ys dx dy apart = (
  λ there. elim (Contains-append_cases xs ys x there) [
    | inl left ↦ dx.0 left
    | inr right ↦ apart x (Contains-head x xs) right
  ],
  distinct_append xs ys dx.1 dy (λ s in_xs in_ys. apart s (Contains-later x s xs in_xs) in_ys),
)

-- in a list without repeats no two elements are equal
pub pairs_from_distinct : {X : Type 0} (xs : List X) → IsDistinct xs → AllPairs (λ x y. x ≢ y) xs
pairs_from_distinct [] once = λ i j d less within. absurd (omega arith)
pairs_from_distinct (x ∷ xs) once =
    AllPairs-cons (λ a b. a ≢ b) x xs
    (λ k d within same. once.0 (subst (λ z. Contains xs z) (sym same) (Contains-get_or xs k d within)))
    (pairs_from_distinct xs once.1)
