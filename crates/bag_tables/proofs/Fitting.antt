-- What the counts show of a fit is what the units have.
use Rattle.std.proofs.Common.{◌≡◌, ◌∙◌, sym, ◌==◌, ◌&&◌, ◌||◌, ◌+◌, ℕ, Bool, true, false, List, [], ◌∷◌, Option, Some, None, refl, ap}
use Rattle.std.proofs.Common.{arith, sum_by}
use Rattle.std.specs.Prelude.{nat_lt, if◌then◌else◌}
use Rattle.std.specs.List.{list_any}
use Rattle.std.specs.declared.cmp.Ordering.{Ordering}
use Rattle.std.specs.BTreeMap.{is_at}
use Rattle.std.proofs.lemmas.Bool.Decides.{nat_tests}
use Rattle.std.proofs.lemmas.List.Sums.{sum_by-cons}
use Rattle.adlb_unit.specs.declared.names.Rank.{Rank}
use Rattle.adlb_unit.specs.declared.names.Server.{Server}
use Rattle.adlb_unit.specs.declared.names.WorkType.{WorkType}
use Rattle.adlb_unit.specs.declared.names.Target.{Target}
use Rattle.adlb_unit.specs.declared.names.Target.TheVariants.{Any, Only, Soft}
use Rattle.adlb_unit.proofs.Permitted.{for_only, for_soft}
use Rattle.adlb_unit.specs.Permit.{is_for, permitted}
use Rattle.bag_ledger.specs.declared.states.Placed.{Placed}
use Rattle.bag_ledger.specs.declared.states.UnitPlace.{UnitPlace}
use Rattle.bag_ledger.specs.declared.states.UnitPlace.TheVariants.{Free, Travelling, Pinned, Spent}
use Rattle.bag_ledger.specs.Bag.{is_free_at}
use Rattle.bag_tables.specs.declared.counts.FreeCounts.{FreeCounts}
use Rattle.bag_tables.specs.declared.tallies.Tally.{Tally}
use Rattle.bag_tables.specs.Keys.{by_shelf, by_target, free_key, shelf_of, target_of}
use Rattle.bag_tables.specs.Tallies.{IsTallyOf, count_of, one_at}
use Rattle.bag_tables.specs.Counted.{IsCounted, shows_fit, shows_fit_of}

-- Tests of the elements of a list.

any_same : {X : Type 0} (p q : X → Bool) → ((x : X) → p x ≡ q x) → (xs : List X) → list_any p xs ≡ list_any q xs
any_same p q same [] = refl
any_same p q same (x ∷ xs) = rw (same x, any_same p q same xs) refl

any_or : {X : Type 0} (p q : X → Bool) (xs : List X) → (list_any p xs || list_any q xs) ≡ list_any (λ x. p x || q x) xs
any_or p q [] = refl
any_or p q (x ∷ xs) = rw (← any_or p q xs) (regroup (p x) (q x) (list_any p xs) (list_any q xs))
  where
    regroup : (a b c d : Bool) → ((a || c) || (b || d)) ≡ ((a || b) || (c || d))
    regroup a b c d = grind (arith, nat_tests)

any_and : {X : Type 0} (a : Bool) (p : X → Bool) (xs : List X) → list_any (λ x. a && p x) xs ≡ (a && list_any p xs)
any_and true p xs = refl
any_and false p [] = refl
any_and false p (x ∷ xs) = any_and false p xs

any_never : {X : Type 0} (xs : List X) → list_any (λ x. false) xs ≡ false
any_never [] = refl
any_never (x ∷ xs) = any_never xs

-- of the pairs of two lists it is no matter which list is gone through first
any_swap : {X Y : Type 0} (p : X → Y → Bool) (xs : List X) (ys : List Y)
    → list_any (λ x. list_any (p x) ys) xs ≡ list_any (λ y. list_any (λ x. p x y) xs) ys
any_swap p [] ys = sym (any_never ys)
any_swap p (x ∷ xs) ys = rw (any_swap p xs ys) (any_or (p x) (λ y. list_any (λ z. p z y) xs) ys)

-- this is the key, if there is one
abbrev is_key : {K : Type 0} → (K → K → Ordering) → Option K → K → Bool
is_key cmp None q = false
is_key cmp (Some key) q = is_at (cmp key) q

counted_any : {K X : Type 0} (cmp : K → K → Ordering) (key_of : X → Option K) (q : K) (xs : List X)
    → nat_lt 0 (sum_by (λ x. one_at cmp (key_of x) q) xs) ≡ list_any (λ x. is_key cmp (key_of x) q) xs
counted_any cmp key_of q [] = refl
counted_any cmp key_of q (x ∷ xs) =
    rw (sum_by-cons (λ y. one_at cmp (key_of y) q) x xs, ← counted_any cmp key_of q xs)
    (by_key (key_of x) (sum_by (λ y. one_at cmp (key_of y) q) xs))
  where
    by_test : (b : Bool) (n : ℕ) → nat_lt 0 ((if b then 1 else 0) + n) ≡ (b || nat_lt 0 n)
    by_test true n = grind (arith, nat_tests)
    by_test false n = grind (arith, nat_tests)

    by_key : (key : Option _) (n : ℕ) → nat_lt 0 (one_at cmp key q + n) ≡ (is_key cmp key q || nat_lt 0 n)
    by_key None n = by_test false n
    by_key (Some key) n = by_test (is_at (cmp key) q) n

-- a count shows whether one of the elements has the key
shown : {K X : Type 0} (cmp : K → K → Ordering) (key_of : X → Option K) (tally : Tally K) (xs : List X) → IsTallyOf cmp key_of tally xs
    → (q : K) → nat_lt 0 (count_of cmp tally q) ≡ list_any (λ x. is_key cmp (key_of x) q) xs
shown cmp key_of tally xs is q = rw (is.counts q) (counted_any cmp key_of q xs)

shown_either : {K X : Type 0} (cmp : K → K → Ordering) (key_of : X → Option K) (tally : Tally K) (xs : List X)
    → IsTallyOf cmp key_of tally xs → (q r : K) → (nat_lt 0 (count_of cmp tally q) || nat_lt 0 (count_of cmp tally r))
    ≡ list_any (λ x. is_key cmp (key_of x) q || is_key cmp (key_of x) r) xs
shown_either cmp key_of tally xs is q r =
    rw (shown cmp key_of tally xs is q, shown cmp key_of tally xs is r)
    (any_or (λ x. is_key cmp (key_of x) q) (λ x. is_key cmp (key_of x) r) xs)

-- The keys of a unit.

-- the unit is free on a shelf of the type, for any rank or for this one
abbrev on_shelves : Server → Rank → WorkType → Placed → Bool
on_shelves server rank kind u =
    is_key by_shelf (free_key shelf_of u) (server.0, kind.0, None) || is_key by_shelf (free_key shelf_of u) (server.0, kind.0, Some rank.0)

abbrev at_targets : Server → Rank → Placed → Bool
at_targets server rank u =
    is_key by_target (free_key target_of u) (server.0, None) || is_key by_target (free_key target_of u) (server.0, Some rank.0)

shelves_are : (server : Server) (rank : Rank) (kind : WorkType) (u : Placed)
    → on_shelves server rank kind u ≡ (is_free_at server u.place && (is_for u.unit.target rank && (kind.0 == u.unit.kind.0)))
shelves_are server rank kind u = by_place u.place refl
  where
    by_target : (at : Server) (target : Target) → u.place ≡ Free at → u.unit.target ≡ target
        → on_shelves server rank kind u ≡ (is_free_at server u.place && (is_for u.unit.target rank && (kind.0 == u.unit.kind.0)))
    by_target at Any is also = rw (is, also) (grind (arith, nat_tests))
    by_target at (Only only) is also = rw (is, also, for_only rank only) (grind (arith, nat_tests))
    by_target at (Soft first) is also = rw (is, also, for_soft rank first) (grind (arith, nat_tests))

    by_place : (place : UnitPlace) → u.place ≡ place
        → on_shelves server rank kind u ≡ (is_free_at server u.place && (is_for u.unit.target rank && (kind.0 == u.unit.kind.0)))
    by_place (Free at) is = by_target at u.unit.target is refl
    by_place (Travelling at) is = rw is refl
    by_place (Pinned at to) is = rw is refl
    by_place Spent is = rw is refl

targets_are : (server : Server) (rank : Rank) (u : Placed)
    → at_targets server rank u ≡ (is_free_at server u.place && (is_for u.unit.target rank && true))
targets_are server rank u = by_place u.place refl
  where
    by_aim : (at : Server) (target : Target) → u.place ≡ Free at → u.unit.target ≡ target
        → at_targets server rank u ≡ (is_free_at server u.place && (is_for u.unit.target rank && true))
    by_aim at Any is also = rw (is, also) (grind (arith, nat_tests))
    by_aim at (Only only) is also = rw (is, also, for_only rank only) (grind (arith, nat_tests))
    by_aim at (Soft first) is also = rw (is, also, for_soft rank first) (grind (arith, nat_tests))

    by_place : (place : UnitPlace) → u.place ≡ place
        → at_targets server rank u ≡ (is_free_at server u.place && (is_for u.unit.target rank && true))
    by_place (Free at) is = by_aim at u.unit.target is refl
    by_place (Travelling at) is = rw is refl
    by_place (Pinned at to) is = rw is refl
    by_place Spent is = rw is refl

-- a listed type is that of a unit that fits
listed_are : (server : Server) (rank : Rank) (kinds : List WorkType) (u : Placed)
    → list_any (λ kind. on_shelves server rank kind u) kinds
    ≡ (is_free_at server u.place && permitted rank (Some kinds) u.unit.kind u.unit.target)
listed_are server rank kinds u =
    any_same (λ kind. on_shelves server rank kind u)
    (λ kind. is_free_at server u.place && (is_for u.unit.target rank && (kind.0 == u.unit.kind.0)))
    (λ kind. shelves_are server rank kind u) kinds
    ∙ any_and (is_free_at server u.place) (λ kind. is_for u.unit.target rank && (kind.0 == u.unit.kind.0)) kinds
    ∙ ap (λ b. is_free_at server u.place && b) (any_and (is_for u.unit.target rank) (λ kind. kind.0 == u.unit.kind.0) kinds)

-- what the counts show is what the units have
pub fit_shown : (free : FreeCounts) (units : List Placed) → IsCounted free units
    → (server : Server) (rank : Rank) (types : Option (List WorkType))
    → shows_fit free server rank types ≡ list_any (λ u. is_free_at server u.place && permitted rank types u.unit.kind u.unit.target) units
fit_shown free units is server rank None =
    shown_either by_target (free_key target_of) free.targets units is.targets (server.0, None) (server.0, Some rank.0)
    ∙ any_same (at_targets server rank) (λ u. is_free_at server u.place && permitted rank None u.unit.kind u.unit.target)
    (targets_are server rank) units
fit_shown free units is server rank (Some kinds) =
    any_same (shows_fit_of free server rank) (λ kind. list_any (on_shelves server rank kind) units)
    (λ kind. shown_either by_shelf (free_key shelf_of) free.shelves units is.shelves (server.0, kind.0, None) (
      server.0,
      kind.0,
      Some rank.0,
    )) kinds
    ∙ any_swap (on_shelves server rank) kinds units
    ∙ any_same (λ u. list_any (λ kind. on_shelves server rank kind u) kinds)
    (λ u. is_free_at server u.place && permitted rank (Some kinds) u.unit.kind u.unit.target) (listed_are server rank kinds) units
