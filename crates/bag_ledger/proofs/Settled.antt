-- What `settled` says, fact by fact.
use Rattle.std.proofs.Common.{◌≡◌, ℕ, zero, suc, ◌+◌, ◌⊎◌, inl, inr, Bool, true, false, not, ◌==◌, List, [], ◌∷◌, length, Some, refl, arith}
use Rattle.std.proofs.Common.{slice_get, add-zero}
use Rattle.std.specs.List.{list_any, list_all}
use Rattle.std.proofs.lemmas.Bool.{and_parts, and_from, or_cases, or_left, or_right, not-true, not_from_false, eqb-true}
use Rattle.adlb_unit.specs.declared.names.Rank.{Rank}
use Rattle.bag_ledger.specs.declared.states.RankState.{RankState}
use Rattle.bag_ledger.specs.declared.states.Placed.{Placed}
use Rattle.bag_ledger.specs.declared.states.Promise.{Promise}
use Rattle.bag_ledger.specs.Bag.{Bag, is_travelling, is_asking, is_asking_or_finished, has_fit, none_fits, settled}
use Rattle.bag_ledger.specs.Words.{IsSettled}
use Rattle.bag_ledger.proofs.Tests.{some_is}

all_is : {X : Type 0} (test : X → Bool) (xs : List X) → list_all test xs ≡ true → (k : ℕ) (x : X) → slice_get xs k ≡ Some x → test x ≡ true
all_is test [] all k x e = absurd (cc)
all_is test (y ∷ ys) all zero x e = rw (← some_is e) (and_parts (test y) (list_all test ys) all).0
all_is test (y ∷ ys) all (suc k) x e = all_is test ys (and_parts (test y) (list_all test ys) all).1 k x e

all_from : {X : Type 0} (test : X → Bool) (xs : List X) → ((k : ℕ) (x : X) → slice_get xs k ≡ Some x → test x ≡ true)
    → list_all test xs ≡ true
all_from test [] each = refl
all_from test (y ∷ ys) each = and_from (test y) (list_all test ys) (each zero y refl) (all_from test ys (λ k x e. each (suc k) x e))

any_is : {X : Type 0} (test : X → Bool) (xs : List X) → list_any test xs ≡ true → (k : ℕ) × (x : X) × (slice_get xs k ≡ Some x)
    × (test x ≡ true)
any_is test [] any = absurd (cc)
any_is test (y ∷ ys) any = by_case (any_is test ys) (or_cases (test y) (list_any test ys) any)
  where
    by_case : (list_any test ys ≡ true → (k : ℕ) × (x : _) × (slice_get ys k ≡ Some x) × (test x ≡ true))
        → (test y ≡ true) ⊎ (list_any test ys ≡ true) → (k : ℕ) × (x : _) × (slice_get (y ∷ ys) k ≡ Some x) × (test x ≡ true)
    by_case rest (inl here) = (zero, y, refl, here)
    by_case rest (inr later) = let s = rest later in (suc s.0, s.1, s.2, s.3)

any_from : {X : Type 0} (test : X → Bool) (xs : List X) (k : ℕ) (x : X) → slice_get xs k ≡ Some x → test x ≡ true → list_any test xs ≡ true
any_from test [] k x e is = absurd (cc)
any_from test (y ∷ ys) zero x e is = or_left (test y) (list_any test ys) (rw (some_is e) is)
any_from test (y ∷ ys) (suc k) x e is = or_right (test y) (list_any test ys) (any_from test ys k x e is)

abbrev numbered : ℕ → Rank
numbered n = record { 0 = n }

no_fit : (units : List Placed) (n : ℕ) (rs : List RankState) → none_fits units n rs ≡ true → (k : ℕ) (r : RankState)
    → slice_get rs k ≡ Some r → has_fit units (numbered (n + k)) r.status ≡ false
no_fit units n [] none k r e = absurd (cc)
no_fit units n (x ∷ xs) none zero r e =
    let here = not-true (has_fit units (numbered n) x.status)
    (and_parts (not (has_fit units (numbered n) x.status)) (none_fits units (n + 1) xs) none).0 in
    rw (add-zero n, ← some_is e) here
no_fit units n (x ∷ xs) none (suc k) r e =
    let later = no_fit units (n + 1) xs (and_parts (not (has_fit units (numbered n) x.status)) (none_fits units (n + 1) xs) none).1 k r e in
    let place : n + suc k ≡ (n + 1) + k = omega arith in
    rw place later

no_fit_from : (units : List Placed) (n : ℕ) (rs : List RankState)
    → ((k : ℕ) (r : RankState) → slice_get rs k ≡ Some r → has_fit units (numbered (n + k)) r.status ≡ false) → none_fits units n rs ≡ true
no_fit_from units n [] each = refl
no_fit_from units n (x ∷ xs) each =
    let first : has_fit units (numbered n) x.status ≡ false = rw (add-zero n) at (each zero x refl) in
    and_from (not (has_fit units (numbered n) x.status)) (none_fits units (n + 1) xs)
    (not_from_false (has_fit units (numbered n) x.status) first)
    (no_fit_from units (n + 1) xs (λ k r e. let place : (n + 1) + k ≡ n + suc k = omega arith in rw place (each (suc k) r e)))

no_promise : (promises : List Promise) → (length promises == 0) ≡ true → promises ≡ []
no_promise [] e = refl
no_promise (p ∷ ps) e = absurd (let none = eqb-true (length (p ∷ ps)) 0 e in omega arith)

-- a bag that passes the test is settled
pub settled_is : (b : Bag) → settled b ≡ true → IsSettled b
settled_is b e =
    let s = and_parts _ (none_fits b.units 0 b.ranks) e in
    let t = and_parts _ (not (list_any (λ u. is_travelling u.place) b.units)) s.0 in
    let u = and_parts _ (length b.promises == 0) t.0 in
    let v = and_parts (list_all (λ r. is_asking_or_finished r.status) b.ranks) (list_any (λ r. is_asking r.status) b.ranks) u.0 in
    let some = any_is (λ (r : RankState). is_asking r.status) b.ranks v.1 in (
      λ rank r is. all_is (λ (r : RankState). is_asking_or_finished r.status) b.ranks v.0 rank.0 r is,
      (numbered some.0, some.1, some.2, some.3),
      no_promise b.promises u.1,
      not-true _ t.1,
      λ rank r is. let place : 0 + rank.0 ≡ rank.0 = omega arith in rw place at (no_fit b.units 0 b.ranks s.1 rank.0 r is),
    )

-- a settled bag passes the test
pub is_settled : (b : Bag) → IsSettled b → settled b ≡ true
is_settled b s =
    let all = all_from (λ (r : RankState). is_asking_or_finished r.status) b.ranks (λ k r e. s.0 (numbered k) r e) in
    let some = any_from (λ (r : RankState). is_asking r.status) b.ranks s.1.0.0 s.1.1 s.1.2 s.1.3 in
    let none = no_fit_from b.units 0 b.ranks (λ k r e. let place : 0 + k ≡ k = omega arith in rw place (s.4 (numbered k) r e)) in
    rw (all, some, s.2, s.3) none
