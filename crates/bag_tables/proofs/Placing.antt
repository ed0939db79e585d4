-- Where the first element that passes is after a push and a change.
use Rattle.std.proofs.Common.{◌≡◌, ◌∙◌, sym, ℕ, zero, suc, ◌+◌, Bool, true, false, List, [], ◌∷◌, ◌++◌, length, Option, Some, None, refl}
use Rattle.std.proofs.Common.{ap, arith}
use Rattle.std.specs.Prelude.{position, option_map, if◌then◌else◌}
use Rattle.std.specs.Option.{option_or}
use Rattle.bag_ledger.specs.Steps.{change_at}
use Rattle.bag_tables.proofs.Finding.{position_here, position_later}

next_or : (o : Option ℕ) (n : ℕ) (b : Bool) → option_map (λ n. n + 1) (option_or o (if b then Some n else None))
    ≡ option_or (option_map (λ n. n + 1) o) (if b then Some (suc n) else None)
next_or (Some m) n b = refl
next_or None n true = ap Some (omega arith)
next_or None n false = refl

-- after a push the first that passes is where it was, or is the new one
pub position_push : {X : Type 0} (test : X → Bool) (xs : List X) (x : X)
    → position test (xs ++ x ∷ []) ≡ option_or (position test xs) (if test x then Some (length xs) else None)
position_push test [] x = by_test (test x) refl
  where
    by_test : (b : Bool) → test x ≡ b → position test (x ∷ []) ≡ (if test x then Some 0 else None)
    by_test true is = position_here test x [] is ∙ rw is refl
    by_test false is = position_later test x [] is ∙ rw is refl
position_push test (y ∷ ys) x = by_test (position_push test ys x) (test y) refl
  where
    by_test : position test (ys ++ x ∷ []) ≡ option_or (position test ys) (if test x then Some (length ys) else None) → (b : Bool)
        → test y ≡ b
        → position test (y ∷ ys ++ x ∷ []) ≡ option_or (position test (y ∷ ys)) (if test x then Some (suc (length ys)) else None)
    by_test rest true is = rw (position_here test y (ys ++ x ∷ []) is, position_here test y ys is) refl
    by_test rest false is =
        rw (position_later test y (ys ++ x ∷ []) is, position_later test y ys is, rest) (next_or (position test ys) (length ys) (test x))

-- a change that keeps the test keeps the place of the first that passes
pub position_changed : {X : Type 0} (test : X → Bool) (f : X → X) → ((x : X) → test (f x) ≡ test x) → (n : ℕ) (xs : List X)
    → position test (change_at f n xs) ≡ position test xs
position_changed test f keeps n [] = refl
position_changed test f keeps zero (x ∷ xs) = by_test (test x) refl
  where
    by_test : (b : Bool) → test x ≡ b → position test (f x ∷ xs) ≡ position test (x ∷ xs)
    by_test true is = position_here test (f x) xs (keeps x ∙ is) ∙ sym (position_here test x xs is)
    by_test false is = position_later test (f x) xs (keeps x ∙ is) ∙ sym (position_later test x xs is)
position_changed test f keeps (suc n) (x ∷ xs) = by_test (position_changed test f keeps n xs) (test x) refl
  where
    by_test : position test (change_at f n xs) ≡ position test xs → (b : Bool) → test x ≡ b
        → position test (x ∷ change_at f n xs) ≡ position test (x ∷ xs)
    by_test rest true is = position_here test x (change_at f n xs) is ∙ sym (position_here test x xs is)
    by_test rest false is = position_later test x (change_at f n xs) is ∙ rw rest (sym (position_later test x xs is))
