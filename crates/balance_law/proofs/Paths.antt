-- A run as a path of bags, and what is read off it rank by rank.
use Rattle.std.proofs.Common.{◌≡◌, ℕ, zero, suc, ◌+◌, ◌≤◌, ◌<◌, ◌≢◌, ◌==◌, Bool, true, false, List, [], ◌∷◌, ◌++◌, Option, Some, None, refl}
use Rattle.std.proofs.Common.{subst, arith}
use Rattle.std.specs.Prelude.{if◌then◌else◌, sum_by}
use Rattle.std.proofs.lemmas.Bool.{eqb-true}
use Rattle.std.proofs.lemmas.Bool.Decides.{nat_tests}
use Rattle.std.proofs.lemmas.List.Sums.{sum_by-append, sum_by-cons}
use Rattle.adlb_unit.specs.declared.names.Rank.{Rank}
use Rattle.bag_ledger.specs.declared.entries.Entry.{Entry}
use Rattle.bag_ledger.specs.declared.entries.Said.{Said}
use Rattle.bag_ledger.specs.Bag.{Bag}
use Rattle.bag_ledger.specs.Steps.{Legal, after}
use Rattle.bag_ledger.specs.Runs.{IsRun, says, said_by, calls_from}
use Rattle.balance_law.specs.Balanced.{over_ranks}

-- the entries, in order, are legal, each in the bag after those before it
abbrev pub IsPath : Bag → List Entry → Bag → Type 0
IsPath b [] last = b ≡ last
IsPath b (e ∷ es) last = Legal b e × IsPath (after b e) es last

-- what is of this rank
abbrev pub of_rank : {X : Type 0} → Rank → Option (Rank × X) → List X
of_rank rank None = []
of_rank rank (Some (by, x)) = if by.0 == rank.0 then x ∷ [] else []

-- what g reads off each entry, in the bag before it, for this rank
abbrev pub along : {X : Type 0} → (Bag → Entry → Option (Rank × X)) → Bag → List Entry → Rank → List X
along g b [] rank = []
along g b (e ∷ es) rank = of_rank rank (g b e) ++ along g (after b e) es rank

-- a run is the path of its bags
pub path_of : (b last : Bag) (es : List Entry) → IsRun b es last → IsPath b es last
path_of b last [] run = run
path_of b last (e ∷ es) run =
    let next : run.0 ≡ after b e = run.1.2 in
    (run.1.1, subst (λ (x : Bag). IsPath x es last) next (path_of run.0 last es run.2))

said_of : (rank : Rank) (o : Option (Rank × Said)) → said_by rank o ≡ of_rank rank o
said_of rank None = refl
said_of rank (Some (by, s)) = refl

-- the calls of a rank are what the entries say
pub calls_along : (b : Bag) (es : List Entry) (rank : Rank) → calls_from b es rank ≡ along says b es rank
calls_along b [] rank = refl
calls_along b (e ∷ es) rank =
    rw (calls_along (after b e) es rank, said_of rank (says b e)) refl

-- what is of one rank, weighed and summed over the ranks

-- the weight of what there is
abbrev pub weight : {X : Type 0} → (X → ℕ) → Option (Rank × X) → ℕ
weight f None = 0
weight f (Some (by, x)) = f x

-- its rank is below this number
abbrev pub IsWithin : {X : Type 0} → ℕ → Option (Rank × X) → Type 0
IsWithin n None = Prim.Unit {0}
IsWithin n (Some (by, x)) = by.0 < n

-- a sum over ranks is that of equal terms
pub over_same : (n : ℕ) (f g : Rank → ℕ) → ((rank : Rank) → rank.0 < n → f rank ≡ g rank) → over_ranks n f ≡ over_ranks n g
over_same zero f g same = refl
over_same (suc n) f g same =
    let h = over_same n f g (λ rank below. same rank (omega arith)) in
    let e = same (record { 0 = n }) (omega arith) in
    omega (arith, h, e)

-- a sum over ranks of sums
pub over_plus : (n : ℕ) (f g : Rank → ℕ) → over_ranks n (λ rank. f rank + g rank) ≡ over_ranks n f + over_ranks n g
over_plus zero f g = omega arith
over_plus (suc n) f g = let h = over_plus n f g in omega (arith, h)

-- a sum over ranks of zeros
pub over_zero : (n : ℕ) → over_ranks n (λ rank. 0) ≡ 0
over_zero zero = refl
over_zero (suc n) = let h = over_zero n in omega (arith, h)

-- a rank that is not below this number
over_none : {X : Type 0} (f : X → ℕ) (n : ℕ) (by : Rank) (x : X) → n ≤ by.0
    → over_ranks n (λ rank. sum_by f (of_rank rank (Some (by, x)))) ≡ 0
over_none f zero by x l = refl
over_none f (suc n) by x l =
    let h = over_none f n by x (omega (arith, l)) in
    let no : (by.0 == n) ≡ false = grind (arith, nat_tests, l) in
    rw no (omega (arith, h))

over_some : {X : Type 0} (f : X → ℕ) (n : ℕ) (by : Rank) (x : X) → by.0 < n
    → over_ranks n (λ rank. sum_by f (of_rank rank (Some (by, x)))) ≡ f x
over_some f zero by x l = absurd (omega (arith, l))
over_some f (suc n) by x l = by_test (by.0 == n) refl (λ lower. over_some f n by x lower)
  where
    by_test : (t : Bool) → (by.0 == n) ≡ t → (by.0 < n → over_ranks n (λ rank. sum_by f (of_rank rank (Some (by, x)))) ≡ f x)
        → over_ranks (suc n) (λ rank. sum_by f (of_rank rank (Some (by, x)))) ≡ f x
    by_test true is rest =
        let e : by.0 ≡ n = eqb-true by.0 n is in
        let h = over_none f n by x (omega (arith, e)) in
        rw (is, sum_by-cons f x []) (omega (arith, h))
    by_test false is rest =
        let d : by.0 ≢ n = grind (arith, nat_tests, is) in
        let h = rest (omega (arith, l, d)) in
        rw is (omega (arith, h))

-- a sum over ranks of what one entry says of one rank
pub over_one : {X : Type 0} (f : X → ℕ) (n : ℕ) (o : Option (Rank × X)) → IsWithin n o
    → over_ranks n (λ rank. sum_by f (of_rank rank o)) ≡ weight f o
over_one f n None within = over_zero n
over_one f n (Some (by, x)) within = over_some f n by x within

-- a sum over a path is the weight of its first entry and the sum over the rest
pub over_along : {X : Type 0} (f : X → ℕ) (n : ℕ) (g : Bag → Entry → Option (Rank × X)) (b : Bag) (e : Entry) (es : List Entry)
    → IsWithin n (g b e)
    → over_ranks n (λ rank. sum_by f (along g b (e ∷ es) rank))
    ≡ weight f (g b e) + over_ranks n (λ rank. sum_by f (along g (after b e) es rank))
over_along f n g b e es within =
    let split =
    over_same n (λ rank. sum_by f (along g b (e ∷ es) rank))
    (λ rank. sum_by f (of_rank rank (g b e)) + sum_by f (along g (after b e) es rank))
    (λ rank below. sum_by-append f (of_rank rank (g b e)) (along g (after b e) es rank)) in
    let plus = over_plus n (λ rank. sum_by f (of_rank rank (g b e))) (λ rank. sum_by f (along g (after b e) es rank)) in
    let one = over_one f n (g b e) within in
    omega (arith, split, plus, one)
