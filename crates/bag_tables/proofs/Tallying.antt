-- Tallies through a change.
use Rattle.std.proofs.Common.{◌≡◌, ℕ, ◌<◌, ◌≤◌, ◌^◌, Bool, true, false, List, [], ◌∷◌, ◌++◌, length, slice_index_or, sum_by, Option, Some}
use Rattle.std.proofs.Common.{None, refl, arith}
use Rattle.std.specs.Prelude.{if◌then◌else◌}
use Rattle.std.specs.declared.cmp.Ordering.{Ordering}
use Rattle.std.specs.BTreeMap.{is_at}
use Rattle.std.proofs.lemmas.List.Sums.{sum_by-cons, sum_by_push, get_or-le-sum_by}
use Rattle.bag_ledger.specs.Steps.{change_at}
use Rattle.bag_tables.specs.declared.tallies.Tally.{Tally}
use Rattle.bag_tables.specs.Tallies.{HasRoom, IsHeld, IsShifted, IsTallyOf, IsTight, one_at}
use Rattle.bag_tables.proofs.Summing.{sum_changed_at}

-- where nothing changes
pub unshifted : {K : Type 0} (cmp : K → K → Ordering) (tally : Tally K) → IsTight cmp tally → IsShifted cmp tally tally None None
unshifted cmp tally tight = record { counts = λ q. refl; tight = tight }

-- what is raised and lowered again is as it was
pub shifted_back : {K : Type 0} {cmp : K → K → Ordering} {old mid new : Tally K} {key : K} → IsShifted cmp old mid None (Some key)
    → IsShifted cmp mid new (Some key) None → IsShifted cmp old new None None
shifted_back up down = record { counts = λ q. omega (arith, up.counts q, down.counts q); tight = down.tight }

one_low : {K : Type 0} (cmp : K → K → Ordering) (key : Option K) (q : K) → one_at cmp key q ≤ 1
one_low cmp None q = omega arith
one_low cmp (Some key) q = by_test (is_at (cmp key) q)
  where
    by_test : (b : Bool) → (if b then 1 else 0) ≤ 1
    by_test true = omega arith
    by_test false = omega arith

ones_low : {K X : Type 0} (cmp : K → K → Ordering) (key_of : X → Option K) (q : K) (xs : List X)
    → sum_by (λ x. one_at cmp (key_of x) q) xs ≤ length xs
ones_low cmp key_of q [] = omega arith
ones_low cmp key_of q (x ∷ xs) =
    let f = λ (y : _). one_at cmp (key_of y) q in
    omega (arith, sum_by-cons f x xs, one_low cmp (key_of x) q, ones_low cmp key_of q xs)

module _ {K X : Type 0} (cmp : K → K → Ordering) (key_of : X → Option K) where
  -- a tally that is not shifted counts the same list
  pub tally_same : (old new : Tally K) (xs : List X) → IsTallyOf cmp key_of old xs → IsShifted cmp old new None None
      → IsTallyOf cmp key_of new xs
  tally_same old new xs is same = record { counts = λ q. omega (arith, is.counts q, same.counts q); tight = same.tight }

  -- a tally counts a list with one element more
  pub tally_push : (old new : Tally K) (xs : List X) (x : X) → IsTallyOf cmp key_of old xs → IsShifted cmp old new None (key_of x)
      → IsTallyOf cmp key_of new (xs ++ x ∷ [])
  tally_push old new xs x is more = record {
    counts = λ q. omega (arith, is.counts q, more.counts q, sum_by_push (λ y. one_at cmp (key_of y) q) xs x);
    tight = more.tight;
  }

  -- a tally counts a list after one element changes
  pub tally_change : (g : X → X) (old new : Tally K) (xs : List X) (at : ℕ) (x : X) → IsTallyOf cmp key_of old xs → at < length xs
      → slice_index_or xs at x ≡ x → IsShifted cmp old new (key_of x) (key_of (g x)) → IsTallyOf cmp key_of new (change_at g at xs)
  tally_change g old new xs at x is inside here moved = record {
    counts = λ q.
        let sums = rw here at (sum_changed_at (λ y. one_at cmp (key_of y) q) g xs at x inside) in
        omega (arith, is.counts q, moved.counts q, sums);
    tight = moved.tight;
  }

  -- each element is counted, and one more fits
  pub tally_holds : (tally : Tally K) (xs : List X) (at : ℕ) (x : X) → IsTallyOf cmp key_of tally xs → at < length xs
      → slice_index_or xs at x ≡ x → IsHeld cmp tally (key_of x)
  tally_holds tally xs at x is inside here = λ q.
      let held = rw here at (get_or-le-sum_by (λ y. one_at cmp (key_of y) q) xs at x inside) in
      omega (arith, is.counts q, held)

  -- a tally of a list shorter than 2^63 has room for one more
  pub tally_fits : (tally : Tally K) (xs : List X) → IsTallyOf cmp key_of tally xs → length xs < 2 ^ 63 → HasRoom cmp tally
  tally_fits tally xs is few = λ q. omega (arith, is.counts q, ones_low cmp key_of q xs)
