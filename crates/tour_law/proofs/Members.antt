-- What a list contains, and what is counted in it.
use Rattle.std.proofs.Common.{◌≡◌, ◌<◌, ◌≤◌, ◌+◌, ℕ, zero, suc, Bool, true, false, cond, List, [], ◌∷◌, ◌++◌, map, length, get_or, Contains}
use Rattle.std.proofs.Common.{All, count_by, refl, sym, ap, ◌∙◌, subst, arith, inl, inr, ◌⊎◌}
use Rattle.std.specs.List.{flat_map}
use Rattle.std.specs.Prelude.{filter}
use Rattle.std.proofs.lemmas.List.Elements.{Contains-append_cases, Contains-append_left, Contains-append_right, All-nil, All-cons}
use Rattle.std.proofs.lemmas.List.Sums.{sum_by-append, sum_by-cons}

-- a list contains its head
pub Contains-head : {X : Type 0} (x : X) (xs : List X) → Contains (x ∷ xs) x
Contains-head x xs = (0, omega arith, refl)

-- a list contains what its tail contains
pub Contains-later : {X : Type 0} (y x : X) (xs : List X) → Contains xs x → Contains (y ∷ xs) x
Contains-later y x xs there = (suc there.0, omega (arith, there.1), there.2)

-- what a list contains is its head or in its tail
pub head_cases : {X : Type 0} (y x : X) (xs : List X) → Contains (y ∷ xs) x → (y ≡ x) ⊎ Contains xs x
head_cases {X} y x xs there = at there.0 there.1 there.2
  where
    at : (k : ℕ) → k < suc (length xs) → get_or (y ∷ xs) k x ≡ x → (y ≡ x) ⊎ Contains xs x
    at zero below is = inl is
    at (suc k) below is = inr (k, omega arith, is)

-- the empty list contains nothing
pub none_there : {X : Type 0} (x : X) → Contains [] x → ⊥
none_there x there = omega (arith, there.1)

-- the image of an element is among the images
pub Contains-map : {X Y : Type 0} (f : X → Y) (xs : List X) (x : X) → Contains xs x → Contains (map f xs) (f x)
Contains-map f [] x there = absurd (none_there x there)
Contains-map f (y ∷ xs) x there = elim (head_cases y x xs there) [
  | inl same ↦ subst (λ z. Contains (z ∷ map f xs) (f x)) (ap f (sym same)) (Contains-head (f x) (map f xs))
  | inr later ↦ Contains-later (f y) (f x) (map f xs) (Contains-map f xs x later)
]

-- from where an element of a map, or of lists end to end, comes
pub record From {X Y : Type 0} (f : X → Y) (xs : List X) (y : Y) : Type 0 where
  pub x : X
  pub there : Contains xs x
  pub is : f x ≡ y

-- an element among the images is the image of one
pub map_from : {X Y : Type 0} (f : X → Y) (xs : List X) (y : Y) → Contains (map f xs) y → From f xs y
map_from f [] y there = absurd (none_there y there)
map_from f (x ∷ xs) y there = elim (head_cases (f x) y (map f xs) there) [
  | inl same ↦ record { x = x; there = Contains-head x xs; is = same }
  | inr later ↦ let rest = map_from f xs y later in record { x = rest.x; there = Contains-later x rest.x xs rest.there; is = rest.is }
]

-- an element of what is made of a list, with the one of which it is made
pub record Among {X Y : Type 0} (f : X → List Y) (xs : List X) (y : Y) : Type 0 where
  pub x : X
  pub there : Contains xs x
  pub is : Contains (f x) y

-- what is made of a list comes from one of its elements
pub flat_from : {X Y : Type 0} (f : X → List Y) (xs : List X) (y : Y) → Contains (flat_map f xs) y → Among f xs y
flat_from f [] y there = absurd (none_there y there)
flat_from f (x ∷ xs) y there = elim (Contains-append_cases (f x) (flat_map f xs) y there) [
  | inl here ↦ record { x = x; there = Contains-head x xs; is = here }
  | inr later ↦ let rest = flat_from f xs y later in record { x = rest.x; there = Contains-later x rest.x xs rest.there; is = rest.is }
]

-- what is made of an element is in what is made of the list
pub Contains-flat : {X Y : Type 0} (f : X → List Y) (xs : List X) (x : X) (y : Y) → Contains xs x → Contains (f x) y
    → Contains (flat_map f xs) y
Contains-flat f [] x y there is = absurd (none_there x there)
Contains-flat f (z ∷ xs) x y there is = elim (head_cases z x xs there) [
  | inl same ↦ Contains-append_left (f z) (flat_map f xs) y (subst (λ w. Contains (f w) y) (sym same) is)
  | inr later ↦ Contains-append_right (f z) (flat_map f xs) y (Contains-flat f xs x y later is)
]

-- what holds of each that is there
pub All-there : {X : Type 0} (P : X → Type 0) (xs : List X) → ((x : X) → Contains xs x → P x) → All P xs
All-there P [] each = All-nil P
All-there P (x ∷ xs) each =
    All-cons P x xs (each x (Contains-head x xs)) (All-there P xs (λ y there. each y (Contains-later x y xs there)))

-- Counts.

-- an element that is there and passes is counted
pub there_counts : {X : Type 0} (p : X → Bool) (xs : List X) (x : X) → Contains xs x → p x ≡ true → 1 ≤ count_by p xs
there_counts p [] x there passes = absurd (none_there x there)
there_counts p (y ∷ xs) x there passes = elim (head_cases y x xs there) [
  | inl same ↦
      let one : cond {A = ℕ} (p y) 1 0 ≡ 1 = ap (λ b. cond {A = ℕ} b 1 0) (ap p same ∙ passes) in
      omega (arith, one, sum_by-cons (λ z. cond (p z) 1 0) y xs)
  | inr later ↦ omega (arith, there_counts p xs x later passes, sum_by-cons (λ z. cond (p z) 1 0) y xs)
]

-- an element that is there and passes
pub record Counted {X : Type 0} (p : X → Bool) (xs : List X) : Type 0 where
  pub x : X
  pub there : Contains xs x
  pub passes : p x ≡ true

-- if something is counted, some element passes
pub counted : {X : Type 0} (p : X → Bool) (xs : List X) → 1 ≤ count_by p xs → Counted p xs
counted p [] some = absurd (omega arith)
counted p (y ∷ xs) some = at (p y) refl (counted p xs)
  where
    at : (b : Bool) → b ≡ p y → (1 ≤ count_by p xs → Counted p xs) → Counted p (y ∷ xs)
    at true e on = record { x = y; there = Contains-head y xs; passes = sym e }
    at false e on =
        let none : cond {A = ℕ} (p y) 1 0 ≡ 0 = ap (λ b. cond {A = ℕ} b 1 0) (sym e) in
        let rest = on (omega (arith, none, some, sum_by-cons (λ z. cond (p z) 1 0) y xs)) in
        record { x = rest.x; there = Contains-later y rest.x xs rest.there; passes = rest.passes }

-- two lists in which each test counts as many have the same elements
pub same_members : {X : Type 0} (eq : X → X → Bool) → ((x y : X) → eq x y ≡ true → x ≡ y) → ((x : X) → eq x x ≡ true) → (xs ys : List X) →
    ((p : X → Bool) → count_by p xs ≡ count_by p ys) → (x : X) → Contains xs x → Contains ys x
same_members eq exact itself xs ys same x there =
    let c = counted (eq x) ys (let a = there_counts (eq x) xs x there (itself x) in let s = same (eq x) in omega (arith, a, s)) in
    subst (λ z. Contains ys z) (sym (exact x c.x c.passes)) c.there
