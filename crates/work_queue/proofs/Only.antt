-- Only one unit of a list comes first.
use Rattle.std.proofs.Common.{◌≡◌, ◌≢◌, ◌<◌, ◌⊎◌, ◌<ℤ◌, ℤ, ℕ, List, Option, Some, sym, ap, ◌∙◌, arith, inl, inr}
use Rattle.std.specs.List.{slice_get}
use Rattle.std.proofs.lemmas.Bool.{cases_eq}
use Rattle.std.proofs.lemmas.Int.{ints}
use Rattle.std.proofs.lemmas.Option.{same_Some}
use Rattle.adlb_unit.specs.declared.names.Rank.{Rank}
use Rattle.adlb_unit.specs.declared.names.UnitId.{UnitId}
use Rattle.adlb_unit.specs.declared.names.WorkType.{WorkType}
use Rattle.work_queue.specs.Best.{ByClass, ByPriority, IsBest, IsOffered, Precedes}
use Rattle.work_queue.specs.Fits.{IsFirstFit}
use Rattle.work_queue.specs.Push.{GoesBefore, IsFirstToPush, IsMovable, told}
use Rattle.work_queue.specs.Queue.{id_of}
use Rattle.work_queue.specs.declared.placing.Placed.{Placed}

-- of two units that each come first, at places of their own, each would come before the other
module _ (May : Placed → Type 0) (Before : ℕ → Placed → ℕ → Placed → Type 0)
    (apart : (i j : ℕ) (p q : Placed) → Before i p j q → Before j q i p → ⊥) (units : List Placed) where
  abbrev IsFirst : ℕ → Placed → Type 0
  IsFirst i p = (other : ℕ) (r : Placed) → slice_get units other ≡ Some r → other ≢ i → May r → Before i p other r

  -- two units that both come first are one
  pub only_first : (i j : ℕ) (p q : Placed) → slice_get units i ≡ Some p → slice_get units j ≡ Some q → May p → May q → IsFirst i p
      → IsFirst j q → p ≡ q
  only_first i j p q at there may_p may_q first_p first_q = elim (cases_eq i j) [
    | inl same ↦ same_Some p q (sym at ∙ ap (λ k. slice_get units k) same ∙ there)
    | inr differs ↦ absurd (apart i j p q (first_p j q there (λ e. differs (sym e)) may_q) (first_q i p at differs may_p))
  ]

by_priority : (x y : ℤ) (i j : ℕ) → ByPriority x y (i < j) → ByPriority y x (j < i) → ⊥
by_priority x y i j (inl a) (inl b) = omega (arith, ints, a, b)
by_priority x y i j (inl a) (inr b) = omega (arith, ints, a, b.0)
by_priority x y i j (inr a) (inl b) = omega (arith, ints, a.0, b)
by_priority x y i j (inr a) (inr b) = omega (arith, a.1, b.1)

by_class : (a b : ℕ) (x y : ℤ) (i j : ℕ) → ByClass a b (ByPriority x y (i < j)) → ByClass b a (ByPriority y x (j < i)) → ⊥
by_class a b x y i j (inl lower) (inl back) = omega (arith, lower, back)
by_class a b x y i j (inl lower) (inr back) = omega (arith, lower, back.0)
by_class a b x y i j (inr even) (inl back) = omega (arith, even.0, back)
by_class a b x y i j (inr even) (inr back) = by_priority x y i j even.1 back.1

goes_apart : (x y : ℤ) (i j : ℕ) → (x <ℤ y) ⊎ ((x ≡ y) × (j < i)) → (y <ℤ x) ⊎ ((y ≡ x) × (i < j)) → ⊥
goes_apart x y i j (inl a) (inl b) = omega (arith, ints, a, b)
goes_apart x y i j (inl a) (inr b) = omega (arith, ints, a, b.0)
goes_apart x y i j (inr a) (inl b) = omega (arith, ints, a.0, b)
goes_apart x y i j (inr a) (inr b) = omega (arith, a.1, b.1)

-- a list has one best
pub only_best : (rank : Rank) (types : Option (List WorkType)) (units : List Placed) (a b : UnitId) → IsBest rank types units a
    → IsBest rank types units b → a ≡ b
only_best rank types units a b x y =
    let same : x.unit ≡ y.unit = only_first (IsOffered rank types) (Precedes rank) (λ i j p q. by_class _ _ p.unit.prio q.unit.prio i j)
    units x.place y.place x.unit y.unit x.here y.here x.is_offered y.is_offered x.is_first y.is_first in
    sym x.has_id ∙ ap id_of same ∙ y.has_id

-- and one first to push
pub only_push : (units : List Placed) (a b : UnitId × ℕ) → IsFirstToPush units a → IsFirstToPush units b → a ≡ b
only_push units a b x y =
    let same : x.unit ≡ y.unit = only_first IsMovable GoesBefore (λ i j p q. goes_apart p.unit.prio q.unit.prio i j) units x.place y.place
    x.unit y.unit x.here y.here x.is_movable y.is_movable x.is_first y.is_first in
    sym x.has ∙ ap told same ∙ y.has

order_cases : (i j : ℕ) → (i < j) ⊎ ((i ≡ j) ⊎ (j < i))
order_cases i j = grind arith

-- and one first fit
pub only_fit : (asked : List (Rank × Option (List WorkType))) (units : List Placed) (a b : UnitId) → IsFirstFit asked units a
    → IsFirstFit asked units b → a ≡ b
only_fit asked units a b x y =
    let same : x.unit ≡ y.unit = by_order (order_cases x.place y.place) in
    sym x.has_id ∙ ap id_of same ∙ y.has_id
  where
    by_order : ((x.place < y.place) ⊎ ((x.place ≡ y.place) ⊎ (y.place < x.place))) → x.unit ≡ y.unit
    by_order (inl before) = absurd (y.is_first x.place x.unit before x.here x.is_asked)
    by_order (inr (inl same)) = same_Some x.unit y.unit (sym x.here ∙ ap (λ k. slice_get units k) same ∙ y.here)
    by_order (inr (inr after)) = absurd (x.is_first y.place y.unit after y.here y.is_asked)
