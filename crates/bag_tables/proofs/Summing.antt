-- Sums by server through a push and a change.
use Rattle.std.proofs.Common.{◌≡◌, ℕ, zero, suc, ◌+◌, ◌<◌, ◌≤◌, ◌^◌, List, [], ◌∷◌, ◌++◌, length, sum_by, slice_index_or, refl, ap, arith}
use Rattle.std.proofs.Common.{length-append, Bool, true, false, ◌==◌, Option, Some, None}
use Rattle.std.specs.Prelude.{if◌then◌else◌}
use Rattle.adlb_unit.specs.declared.names.Server.{Server}
use Rattle.std.proofs.lemmas.List.Sums.{sum_by-cons, sum_by_push, sum_by-le-sum_by, get_or-le-sum_by}
use Rattle.bag_ledger.specs.Steps.{change_at}
use Rattle.bag_tables.specs.declared.charges.Charges.{Charges}
use Rattle.bag_tables.specs.Charges.{IsSummed, charged_at, bytes_at}

length_changed : {X : Type 0} (f : X → X) (n : ℕ) (xs : List X) → length (change_at f n xs) ≡ length xs
length_changed f n [] = refl
length_changed f zero (x ∷ xs) = refl
length_changed f (suc n) (x ∷ xs) = ap suc (length_changed f n xs)

-- a sum changes by the change of the element
pub sum_changed_at : {X : Type 0} (f : X → ℕ) (g : X → X) (xs : List X) (place : ℕ) (d : X) → place < length xs
    → sum_by f (change_at g place xs) + f (slice_index_or xs place d) ≡ sum_by f xs + f (g (slice_index_or xs place d))
sum_changed_at f g [] place d inside = absurd (omega (arith, inside))
sum_changed_at f g (x ∷ xs) zero d inside = rw (sum_by-cons f (g x) xs, sum_by-cons f x xs) (omega arith)
sum_changed_at f g (x ∷ xs) (suc place) d inside =
    let rest = sum_changed_at f g xs place d (omega (arith, inside)) in
    rw (sum_by-cons f x (change_at g place xs), sum_by-cons f x xs) (omega arith)

-- charges of 0 are the sums over nothing
pub summed_none : {X : Type 0} (weight : ℕ → X → ℕ) (size : X → ℕ) (charges : Charges) → ((k : ℕ) → charged_at charges k ≡ 0)
    → IsSummed weight size charges []
summed_none weight size charges none = record { sums = λ k inside. none k; small = omega arith }

-- charges are sums with one element more
pub summed_push : {X : Type 0} (weight : ℕ → X → ℕ) (size : X → ℕ) (old new : Charges) (xs : List X) (x : X) → IsSummed weight size old xs
    → size x < 2 ^ 64 → ((k : ℕ) → k < 8 → charged_at new k ≡ charged_at old k + weight k x) → IsSummed weight size new (xs ++ x ∷ [])
summed_push weight size old new xs x is short raised = record {
  sums = λ k inside. omega (arith, raised k inside, is.sums k inside, sum_by_push (weight k) xs x);
  small = let long = length-append xs (x ∷ []) in omega (arith, is.small, short, sum_by_push size xs x);
}

-- charges are sums after one element changes
pub summed_change : {X : Type 0} (weight : ℕ → X → ℕ) (size : X → ℕ) (g : X → X) (old new : Charges) (xs : List X) (place : ℕ) (d : X)
    → IsSummed weight size old xs → place < length xs → size (g (slice_index_or xs place d)) ≤ size (slice_index_or xs place d)
    → ((k : ℕ) → k < 8 → charged_at new k + weight k (slice_index_or xs place d)
    ≡ charged_at old k + weight k (g (slice_index_or xs place d))) → IsSummed weight size new (change_at g place xs)
summed_change weight size g old new xs place d is inside same shifted = record {
  sums = λ k within. omega (arith, shifted k within, is.sums k within, sum_changed_at (weight k) g xs place d inside);
  small = omega (arith, is.small, same, sum_changed_at size g xs place d inside, length_changed g place xs);
}

-- each element is in the sum, and one more fits
pub summed_holds : {X : Type 0} (weight : ℕ → X → ℕ) (size : X → ℕ) (charges : Charges) (xs : List X) (place : ℕ) (d : X)
    → IsSummed weight size charges xs → place < length xs → (k : ℕ) → k < 8 → weight k (slice_index_or xs place d) ≤ charged_at charges k
summed_holds weight size charges xs place d is inside k within =
    omega (arith, is.sums k within, get_or-le-sum_by (weight k) xs place d inside)

-- a charge has room for `n` bytes more
pub summed_fits : {X : Type 0} (weight : ℕ → X → ℕ) (size : X → ℕ) (charges : Charges) (xs : List X) (n : ℕ)
    → IsSummed weight size charges xs → ((k : ℕ) (x : X) → weight k x ≤ size x) → length xs < 2 ^ 64 → n < 2 ^ 64 → (k : ℕ) → k < 8
    → charged_at charges k + n < 2 ^ 128
summed_fits weight size charges xs n is low few short k within =
    omega (arith, is.sums k within, is.small, sum_by-le-sum_by (weight k) size xs (low k))

-- the bytes at one server are no more than all
pub bytes_low : (at : Option Server) (k n : ℕ) → bytes_at at k n ≤ n
bytes_low None k n = omega arith
bytes_low (Some server) k n = by_test (server.0 == k)
  where
    by_test : (b : Bool) → (if b then n else 0) ≤ n
    by_test true = omega arith
    by_test false = omega arith
