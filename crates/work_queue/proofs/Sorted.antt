-- Lists in an order: where an element stands, and one that comes or goes.
use Rattle.std.proofs.Common.{◌≡◌, ◌≢◌, ◌<◌, ◌≤◌, ◌+◌, ◌-◌, ◌⊎◌, ◌∷◌, ◌++◌, ℕ, Bool, true, false, List, get_or, length, sym, ap, ◌∙◌, arith}
use Rattle.std.proofs.Common.{inl, inr, All, Contains}
use Rattle.std.specs.List.{AllPairs, insert, remove}
use Rattle.std.specs.List.Sorted.{IsPartitionPoint, IsPartitionedBy, IsPermutation}
use Rattle.std.proofs.lemmas.List.{get_or_default}
use Rattle.std.proofs.lemmas.List.Edits.{get_or-insert_above, get_or-insert_at, get_or-insert_below, get_or-remove_above}
use Rattle.std.proofs.lemmas.List.Edits.{get_or-remove_below, length-insert, length-remove}
use Rattle.std.proofs.lemmas.List.Sorted.{IsPermutation-middle, IsPermutation-sym, IsPermutation-trans}
use Rattle.std.proofs.lemmas.Bool.{both_ways, cases_eq, cases_lt}
use Rattle.work_queue.proofs.Members.{first_cancelled}

module _ {X : Type 0} (R : X → X → Type 0) (xs : List X) (n : ℕ) (y : X) (pairs : AllPairs R xs) (within : n ≤ length xs)
    (low : (k : ℕ) (d : X) → k < n → R (get_or xs k d) y) (high : (k : ℕ) (d : X) → n ≤ k → k < length xs → R y (get_or xs k d)) where
  moved : (a b c d : X) → a ≡ c → b ≡ d → R c d → R a b
  moved a b c d first second is = rw (first, second) is

  above : (k : ℕ) (d : X) → n < k → get_or (insert xs n y) k d ≡ get_or xs (k - 1) d
  above k d after =
      let next : k ≡ k - 1 + 1 = omega arith in
      ap (λ m. get_or (insert xs n y) m d) next ∙ get_or-insert_above xs n y d (k - 1) (omega arith) within

  at : (k : ℕ) (d : X) → k ≡ n → get_or (insert xs n y) k d ≡ y
  at k d here = ap (λ m. get_or (insert xs n y) m d) here ∙ get_or-insert_at xs n y d within

  -- a pair of the list with one more
  pub all_pairs_insert : AllPairs R (insert xs n y)
  all_pairs_insert i j d before below = elim (cases_lt j n) [
    | inl early ↦ moved _ _ _ _ (get_or-insert_below xs n y d i (omega arith) within) (get_or-insert_below xs n y d j early within)
        (pairs i j d before (omega arith))
    | inr late ↦ elim (cases_eq j n) [
      | inl here ↦ moved _ _ _ _ (get_or-insert_below xs n y d i (omega (arith, here)) within) (at j d here) (low i d (omega (arith, here)))
      | inr past ↦
          let long : length (insert xs n y) ≡ length xs + 1 = length-insert xs n y within in
          elim (cases_lt i n) [
            | inl front ↦ moved _ _ _ _ (get_or-insert_below xs n y d i front within) (above j d (omega arith))
                (pairs i (j - 1) d (omega arith) (omega (arith, long)))
            | inr back ↦ elim (cases_eq i n) [
              | inl there ↦ moved _ _ _ _ (at i d there) (above j d (omega arith)) (high (j - 1) d (omega arith) (omega (arith, long)))
              | inr beyond ↦ moved _ _ _ _ (above i d (omega arith)) (above j d (omega arith))
                  (pairs (i - 1) (j - 1) d (omega arith) (omega (arith, long)))
            ]
          ]
    ]
  ]

-- an order by a test, which none passes with itself
module _ {X : Type 0} (before : X → X → Bool) where
  -- each element goes before all later ones
  abbrev pub InOrder : List X → Type 0
  InOrder xs = AllPairs (λ a b. before a b ≡ true) xs

  -- what comes before an element before the given one is before it too
  pub parted_at : ((a b c : X) → before a b ≡ true → before b c ≡ true → before a c ≡ true) → (xs : List X) (x : X) → InOrder xs
      → IsPartitionedBy (λ y. before y x) xs
  parted_at trans xs x order i j d le within is = by_cases (cases_eq i j)
    where
      by_cases : (i ≡ j) ⊎ (i ≢ j) → before (get_or xs i d) x ≡ true
      by_cases (inl same) = rw same is
      by_cases (inr differs) = trans (get_or xs i d) (get_or xs j d) x (order i j d (omega arith) within) is

  -- one that comes before what it does not follow goes in at its place
  pub added_in_order : (xs : List X) (x : X) (n : ℕ) → InOrder xs → n ≤ length xs
      → IsPartitionPoint (λ y. before y x ≡ true) (λ y. before y x ≡ false) xs n
      → ((k : ℕ) (d : X) → k < length xs → before (get_or xs k d) x ≡ false → before x (get_or xs k d) ≡ true) → InOrder (insert xs n x)
  added_in_order xs x n order within point other =
      let R : X → X → Type 0 = λ a b. before a b ≡ true in
      all_pairs_insert R xs n x order within (λ k d below. point.0 k d (omega arith) below)
      (λ k d from below. other k d below (point.1 k d from below))

  module _ (self : (a : X) → before a a ≡ false) where
    -- elements in order differ
    pub differ_in_order : (xs : List X) → InOrder xs → AllPairs (λ a b. a ≢ b) xs
    differ_in_order xs order i j d first within same =
        both_ways (before (get_or xs i d) (get_or xs i d)) (self (get_or xs i d)) (rw (sym same) at (order i j d first within))

    -- a list without one of its elements has what stands on both sides of it
    pub both_sides : (front back xs new : List X) (x : X) → IsPermutation (front ++ x ∷ back) xs → InOrder new → All (λ y. y ≢ x) new
        → IsPermutation xs (x ∷ new) → IsPermutation (front ++ back) new
    both_sides front back xs new x held order gone left =
        let first : IsPermutation (x ∷ front ++ back) xs =
        IsPermutation-trans _ _ _ (IsPermutation-sym _ _ (IsPermutation-middle front x back)) held in
        let both : IsPermutation (x ∷ new) (x ∷ front ++ back) = IsPermutation-sym _ _ (IsPermutation-trans _ _ _ first left) in
        IsPermutation-sym new (front ++ back) (first_cancelled x new (front ++ back) (differ_in_order new order) gone both)

    module _ (xs : List X) (x : X) (n : ℕ) (order : InOrder xs) (within : n ≤ length xs)
        (point : IsPartitionPoint (λ y. before y x ≡ true) (λ y. before y x ≡ false) xs n) where
      -- an element of the list is at its place
      pub stands_at : Contains xs x → (n < length xs) × (x ≡ get_or xs n x)
      stands_at there = elim (cases_lt there.0 n) [
        | inl low ↦ absurd (both_ways (before x x) (self x) (rw there.2 at (point.0 there.0 x (omega arith) low)))
        | inr high ↦ elim (cases_eq there.0 n) [
          | inl here ↦ (omega (arith, here, there.1), sym there.2 ∙ ap (λ m. get_or xs m x) here)
          | inr past ↦
              absurd (both_ways (before (get_or xs n x) x) (point.1 n x (omega arith) (omega (arith, there.1)))
              (rw there.2 at (order n there.0 x (omega arith) there.1)))
        ]
      ]

      -- and nowhere else
      pub stands_once : Contains xs x → All (λ y. y ≢ x) (remove xs n)
      stands_once there k d below same =
          let here = stands_at there in
          let long = length-remove xs n here.0 in
          elim (cases_lt k n) [
            | inl low ↦
                let read : get_or xs k d ≡ x = sym (get_or-remove_below xs n d k low here.0) ∙ same in
                absurd (both_ways (before x x) (self x) (rw read at (point.0 k d (omega arith) low)))
            | inr high ↦
                let next : get_or xs (k + 1) d ≡ x = sym (get_or-remove_above xs n d k high here.0) ∙ same in
                let this : get_or xs n d ≡ x = get_or_default xs n d x here.0 ∙ sym here.1 in
                absurd (both_ways (before x x) (self x) (rw (this, next) at (order n (k + 1) d (omega arith) (omega (arith, long, below)))))
          ]
