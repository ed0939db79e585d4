-- How boards are counted.
use Rattle.std.proofs.Common.{◌≡◌, ◌+◌, ◌^◌, ◌-◌, ◌<◌, ◌≤◌, ℕ, zero, suc, Bool, true, false, cond, List, [], ◌∷◌, ◌++◌, All, length, take}
use Rattle.std.proofs.Common.{get_or, length-append, refl, sym, ap, ◌∙◌, arith, sum_by}
use Rattle.std.specs.List.{range_with_len}
use Rattle.std.proofs.Math.Nat.{mul-le-mul_right, pow-le-pow_right, pow-succ'}
use Rattle.std.proofs.lemmas.List.{take_all}
use Rattle.std.proofs.lemmas.List.Elements.{All-nil, All-cons}
use Rattle.std.proofs.lemmas.List.FromFn.{get_or-range_with_len, length-range_with_len}
use Rattle.std.proofs.lemmas.List.Sums.{sum_by-le, sum_by-take-le, sum_by_more}
use Rattle.example_queens.specs.Boards.{extensions, is_safe, placements}

-- what a column of the next row gives
abbrev pub by_column : ℕ → List ℕ → ℕ → ℕ
by_column side board column = cond (is_safe board column) (extensions (side - length board - 1) side (board ++ column ∷ [])) 0

-- what the first columns give
abbrev pub so_far : ℕ → List ℕ → ℕ → ℕ
so_far side board columns = sum_by (by_column side board) (take columns (range_with_len 0 side))

-- a board without rows to come counts itself
pub full : (side : ℕ) (board : List ℕ) → side ≤ length board → placements side board ≡ 1
unfolding extensions
full side board less = let none : side - length board ≡ 0 = omega arith in ap (λ n. extensions n side board) none

-- otherwise it counts what its children count
split_by : (side : ℕ) (board : List ℕ)
    → extensions (suc (side - length board - 1)) side board ≡ sum_by (by_column side board) (range_with_len 0 side)
unfolding extensions
split_by side board = refl

whole_row : (side : ℕ) (board : List ℕ) → length board < side
    → placements side board ≡ sum_by (by_column side board) (range_with_len 0 side)
whole_row side board less =
    let is : side - length board ≡ suc (side - length board - 1) = omega arith in
    ap (λ n. extensions n side board) is ∙ split_by side board

pub split : (side : ℕ) (board : List ℕ) → length board < side → placements side board ≡ so_far side board side
split side board less =
    let entire : take side (range_with_len 0 side) ≡ range_with_len 0 side =
    take_all side (range_with_len 0 side) (omega (arith, length-range_with_len 0 side)) in
    whole_row side board less ∙ sym (ap (λ l. sum_by (by_column side board) l) entire)

next : (side : ℕ) (board : List ℕ) (column : ℕ) → column < side →
    so_far side board (column + 1) ≡ so_far side board column + by_column side board column
next side board column less =
    let f : ℕ → ℕ = by_column side board in
    let r : List ℕ = range_with_len 0 side in
    let long = length-range_with_len 0 side in
    let more = sum_by_more f r column 0 (omega (arith, long)) in
    let at : get_or r column 0 ≡ column = omega (arith, get_or-range_with_len 0 side column 0 less) in
    more ∙ ap (λ c. sum_by f (take column r) + f c) at

-- a child counts what its column gives, and no other column gives any
child_counts : (side : ℕ) (board : List ℕ) (column : ℕ) → length board < side → is_safe board column ≡ true →
    by_column side board column ≡ placements side (board ++ column ∷ [])
child_counts side board column more safe =
    let rows : side - length board - 1 ≡ side - length (board ++ column ∷ []) = omega (arith, length-append board (column ∷ [])) in
    ap (λ t. cond {A = ℕ} t (extensions (side - length board - 1) side (board ++ column ∷ [])) 0) safe
    ∙ ap (λ n. extensions n side (board ++ column ∷ [])) rows

pub next_safe : (side : ℕ) (board : List ℕ) (column : ℕ) → column < side → length board < side → is_safe board column ≡ true →
    so_far side board (column + 1) ≡ so_far side board column + placements side (board ++ column ∷ [])
next_safe side board column less more safe =
    next side board column less ∙ ap (λ n. so_far side board column + n) (child_counts side board column more safe)

pub next_unsafe : (side : ℕ) (board : List ℕ) (column : ℕ) → column < side → is_safe board column ≡ false →
    so_far side board (column + 1) ≡ so_far side board column
next_unsafe side board column less unsafe =
    let none : by_column side board column ≡ 0 =
    ap (λ t. cond {A = ℕ} t (extensions (side - length board - 1) side (board ++ column ∷ [])) 0) unsafe in
    omega (arith, next side board column less, none)

-- There are at most 16 ways to go on in each row, so the count of a board of side 15 fits a u64.

either : (t : Bool) (n m : ℕ) → n ≤ m → cond t n 0 ≤ m
either true n m less = less
either false n m less = omega arith

all_less : (f : ℕ → ℕ) (m : ℕ) → ((x : ℕ) → f x ≤ m) → (xs : List ℕ) → All (λ x. f x ≤ m) xs
all_less f m each [] = All-nil (λ x. f x ≤ m)
all_less f m each (x ∷ xs) = All-cons (λ y. f y ≤ m) x xs (each x) (all_less f m each xs)

sum_few : (f : ℕ → ℕ) (rows side : ℕ) → side ≤ 16 → ((x : ℕ) → f x ≤ 16 ^ rows) → sum_by f (range_with_len 0 side) ≤ 16 ^ suc rows
sum_few f rows side small each =
    let m : ℕ = 16 ^ rows in
    let sum = sum_by-le f m (range_with_len 0 side) (all_less f m each (range_with_len 0 side)) in
    let long : length (range_with_len 0 side) ≤ 16 = omega (arith, length-range_with_len 0 side) in
    omega (arith, sum, mul-le-mul_right m long, pow-succ' 16 rows)

few : (rows side : ℕ) (board : List ℕ) → side ≤ 16 → extensions rows side board ≤ 16 ^ rows
unfolding extensions
few zero side board small = omega arith
few (suc rows) side board small =
    sum_few (λ column. cond (is_safe board column) (extensions rows side (board ++ column ∷ [])) 0) rows side small
    (λ column. either (is_safe board column) _ (16 ^ rows) (few rows side (board ++ column ∷ []) small))

pub fits : (side : ℕ) (board : List ℕ) (column : ℕ) → column < side → length board < side → side ≤ 15 → is_safe board column ≡ true →
    so_far side board column + placements side (board ++ column ∷ []) < 2 ^ 64
fits side board column less more small safe =
    let f : ℕ → ℕ = by_column side board in
    let r : List ℕ = range_with_len 0 side in
    let next_is = next_safe side board column less more safe in
    let part : so_far side board (column + 1) ≤ sum_by f r = sum_by-take-le f r (column + 1) in
    let whole : placements side board ≡ sum_by f r = whole_row side board more in
    let all : placements side board ≤ 16 ^ (side - length board) = few (side - length board) side board (omega arith) in
    let rows : side - length board ≤ 15 = omega arith in
    let some : 0 < 16 = omega arith in
    let low : 16 ^ (side - length board) ≤ 16 ^ 15 = pow-le-pow_right {n = 16} some rows in
    omega (arith, next_is, part, whole, all, low)
