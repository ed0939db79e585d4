-- The tests of the best unit, and what they say.
use Rattle.std.proofs.Common.{◌≡◌, ◌<◌, ◌<ℤ◌, ◌⊎◌, ◌==◌, ℤ, ℕ, List, [], ◌∷◌, Bool, true, false, ◌&&◌, ◌||◌, Option, Some, None, is_none}
use Rattle.std.proofs.Common.{int_lt, refl, ap, ◌∙◌, arith, inl, inr, eqb, nat_lt, Contains}
use Rattle.std.specs.List.{list_any}
use Rattle.std.proofs.lemmas.Bool.{and_parts, and_from, eqb-true, eq-eqb, or_cases, or_left, or_right, false≢true}
use Rattle.std.proofs.lemmas.Bool.Decides.{nat_tests}
use Rattle.std.proofs.lemmas.Int.{ints}
use Rattle.slab.proofs.SlabLemmas.{Contains-cons, Contains-cons_cases}
use Rattle.adlb_unit.specs.declared.names.Rank.{Rank}
use Rattle.adlb_unit.specs.declared.names.Target.{Target}
use Rattle.adlb_unit.proofs.Permitted.{is_for_is, is_is_for}
use Rattle.adlb_unit.specs.declared.names.WorkType.{WorkType}
use Rattle.adlb_unit.specs.Permit.{HasKind, Permits, has_kind, is_for, permitted}
use Rattle.work_queue.specs.Best.{ByClass, ByPriority, IsOffered, offered}
use Rattle.work_queue.specs.declared.placing.Placed.{Placed}

kind_listed : (kinds : List WorkType) (kind : WorkType) → list_any (λ k. k.0 == kind.0) kinds ≡ true → Contains kinds kind
kind_listed [] kind found = absurd (false≢true found)
kind_listed (k ∷ kinds) kind found = elim (or_cases (eqb k.0 kind.0) (list_any (λ k. eqb k.0 kind.0) kinds) found) [
  | inl here ↦ (0, omega arith, let wrapped : ℕ → WorkType = λ n. record { 0 = n } in ap wrapped (eqb-true k.0 kind.0 here))
  | inr later ↦ Contains-cons k kind kinds (kind_listed kinds kind later)
]

listed_kind : (kinds : List WorkType) (kind : WorkType) → Contains kinds kind → list_any (λ k. k.0 == kind.0) kinds ≡ true
listed_kind [] kind there = absurd (omega (arith, there.1))
listed_kind (k ∷ kinds) kind there = elim (Contains-cons_cases k kind kinds there) [
  | inl here ↦ or_left (eqb k.0 kind.0) (list_any (λ k. eqb k.0 kind.0) kinds) (eq-eqb k.0 kind.0 (ap (λ x. x.0) here))
  | inr later ↦ or_right (eqb k.0 kind.0) (list_any (λ k. eqb k.0 kind.0) kinds) (listed_kind kinds kind later)
]

has_kind_is : (types : Option (List WorkType)) (kind : WorkType) → has_kind types kind ≡ true → HasKind types kind
has_kind_is None kind test = tt
has_kind_is (Some kinds) kind test = kind_listed kinds kind test

is_has_kind : (types : Option (List WorkType)) (kind : WorkType) → HasKind types kind → has_kind types kind ≡ true
is_has_kind None kind has = refl
is_has_kind (Some kinds) kind has = listed_kind kinds kind has

-- a unit without a pin has none to name
pub free_is : (pin : Option Rank) → is_none pin ≡ true → pin ≡ None
free_is None test = refl
free_is (Some rank) test = absurd (false≢true test)

-- the test tells what is permitted
pub permitted_is : (rank : Rank) (types : Option (List WorkType)) (kind : WorkType) (target : Target)
    → permitted rank types kind target ≡ true → Permits rank types kind target
permitted_is rank types kind target test =
    let parts = and_parts (is_for target rank) (has_kind types kind) test in
    (has_kind_is types kind parts.1, is_for_is target rank parts.0)

-- what a rank may have passes the test
pub is_permitted : (rank : Rank) (types : Option (List WorkType)) (kind : WorkType) (target : Target) → Permits rank types kind target
    → permitted rank types kind target ≡ true
is_permitted rank types kind target is =
    and_from (is_for target rank) (has_kind types kind) (is_is_for target rank is.1) (is_has_kind types kind is.0)

-- the test tells the offered units
pub offered_is : (rank : Rank) (types : Option (List WorkType)) (p : Placed) → offered rank types p ≡ true → IsOffered rank types p
offered_is rank types p test =
    let free = and_parts (is_none p.pin) (permitted rank types p.unit.kind p.unit.target) test in
    (free_is p.pin free.0, permitted_is rank types p.unit.kind p.unit.target free.1)

-- a unit that is offered passes the test
pub is_offered : (rank : Rank) (types : Option (List WorkType)) (p : Placed) → IsOffered rank types p → offered rank types p ≡ true
is_offered rank types p is = and_from (is_none p.pin) (permitted rank types p.unit.kind p.unit.target) (rw is.0 refl)
    (is_permitted rank types p.unit.kind p.unit.target is.1)

-- the test that a later unit, of class b and priority y, is strictly better than one of class a and priority x
abbrev pub passes : ℕ → ℕ → ℤ → ℤ → Bool
passes a b x y = nat_lt b a || ((b == a) && int_lt x y)

-- where it is not, the earlier unit comes first
pub stays_first : (a b : ℕ) (x y : ℤ) (rest : Type 0) → rest → passes a b x y ≡ false → ByClass a b (ByPriority x y rest)
stays_first a b x y rest first test = by_order (cases a b x y test)
  where
    cases : (a b : ℕ) (x y : ℤ) → passes a b x y ≡ false → (a < b) ⊎ ((a ≡ b) × ((y <ℤ x) ⊎ (x ≡ y)))
    cases a b x y test = grind (arith, ints, nat_tests)

    by_order : (a < b) ⊎ ((a ≡ b) × ((y <ℤ x) ⊎ (x ≡ y))) → ByClass a b (ByPriority x y rest)
    by_order (inl lower) = inl lower
    by_order (inr (e, inl higher)) = inr (e, inl higher)
    by_order (inr (e, inr tie)) = inr (e, inr (tie, first))

-- where it is, the later unit comes first, whatever their places
pub passes_is : (a b : ℕ) (x y : ℤ) → passes a b x y ≡ true → (b < a) ⊎ ((b ≡ a) × (x <ℤ y))
passes_is a b x y test = grind (arith, ints, nat_tests)

above : (x y z : ℤ) (rest last : Type 0) → x <ℤ y → ByPriority x z rest → ByPriority y z last
above x y z rest last up (inl down) = inl (let h : z <ℤ y = omega (arith, ints) in h)
above x y z rest last up (inr tie) = inl (let h : z <ℤ y = omega (arith, ints, tie.0) in h)

-- and so before all that the earlier unit came before
pub passes_all : (a b c : ℕ) (x y z : ℤ) (rest last : Type 0) → (b < a) ⊎ ((b ≡ a) × (x <ℤ y)) → ByClass a c (ByPriority x z rest)
    → ByClass b c (ByPriority y z last)
passes_all a b c x y z rest last (inl lower) (inl first) = inl (omega arith)
passes_all a b c x y z rest last (inl lower) (inr tie) = inl (omega (arith, tie.0))
passes_all a b c x y z rest last (inr even) (inl first) = inl (omega (arith, even.0))
passes_all a b c x y z rest last (inr even) (inr tie) = inr (even.0 ∙ tie.0, above x y z rest last even.1 tie.1)

-- a higher class, or the class and a higher priority, passes whatever comes last
pub passes_one : (a b : ℕ) (x y : ℤ) (last : Type 0) → (b < a) ⊎ ((b ≡ a) × (x <ℤ y)) → ByClass b a (ByPriority y x last)
passes_one a b x y last (inl lower) = inl lower
passes_one a b x y last (inr even) = inr (even.0, inl even.1)
