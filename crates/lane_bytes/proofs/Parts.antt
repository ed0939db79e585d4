-- Sums over the bytes before a place, over those of a part from there on, and over the rest.
use Rattle.std.proofs.Common.{◌≡◌, ◌≤◌, ◌+◌, ◌*◌, ℕ, zero, suc, List, [], ◌∷◌, length, Bool, true, false, cond, map, sum, sum_by, take}
use Rattle.std.proofs.Common.{drop, slice_range, get_or, arith, refl, ap, ◌∙◌, sym, lit≤, Fits, w8, length-drop}
use Rattle.std.proofs.lemmas.List.Sums.{sum_by-cons, sum_by-append, sum_by-take-drop, length-filter}
use Rattle.std.proofs.Math.Seq.{take-add}
use lib.Lanes.{sum_l}
use Rattle.lane_bytes.specs.Answers.{is_from, count_from}

-- 1 for a byte that is counted, 0 for another
abbrev pub counts : ℕ → ℕ → ℕ → ℕ
counts lo hi byte = cond (is_from lo hi byte) 1 0

-- the count as a sum
pub count_is_sum : (lo hi : ℕ) (xs : List ℕ) → count_from lo hi xs ≡ sum_by (counts lo hi) xs
count_is_sum lo hi xs = length-filter (is_from lo hi) xs

range_is_part : (xs : List ℕ) (from n : ℕ) → slice_range xs from (from + n) ≡ take n (drop from xs)
range_is_part xs from n = grind arith

take_whole : (xs : List ℕ) → take (length xs) xs ≡ xs
take_whole [] = refl
take_whole (x ∷ xs) = ap (λ l. x ∷ l) (take_whole xs)

pub range_is_rest : (xs : List ℕ) (from : ℕ) → slice_range xs from (length xs) ≡ drop from xs
range_is_rest xs from = ap (λ n. take n (drop from xs)) (sym (length-drop from xs)) ∙ take_whole (drop from xs)

module _ (f : ℕ → ℕ) where
  sum_of_map : (xs : List ℕ) → sum_l (map f xs) ≡ sum_by f xs
  sum_of_map [] = refl
  sum_of_map (x ∷ xs) = omega (arith, sum_of_map xs, sum_by-cons f x xs)

  -- one part more
  pub part_adds : (xs : List ℕ) (from n : ℕ)
      → sum_by f (take (from + n) xs) ≡ sum_by f (take from xs) + sum_by f (slice_range xs from (from + n))
  part_adds xs from n =
      ap (sum_by f) (take-add from n xs) ∙ sum_by-append f (take from xs) (take n (drop from xs))
      ∙ ap (λ part. sum_by f (take from xs) + sum_by f part) (sym (range_is_part xs from n))

  -- the lanes of one part more
  pub lanes_add : (xs : List ℕ) (from n : ℕ)
      → sum_by f (take (from + n) xs) ≡ sum_by f (take from xs) + sum_l (map f (take n (drop from xs)))
  lanes_add xs from n =
      ap (sum_by f) (take-add from n xs) ∙ sum_by-append f (take from xs) (take n (drop from xs))
      ∙ ap (λ s. sum_by f (take from xs) + s) (sym (sum_of_map (take n (drop from xs))))

  -- the rest makes it whole
  pub rest_adds : (xs : List ℕ) (from : ℕ) → sum_by f (take from xs) + sum_by f (slice_range xs from (length xs)) ≡ sum_by f xs
  rest_adds xs from = ap (λ part. sum_by f (take from xs) + sum_by f part) (range_is_rest xs from) ∙ sum_by-take-drop f xs from

  -- at most b for each element
  sum_at_most : (b : ℕ) (xs : List ℕ) → ((i : ℕ) → f (get_or xs i 0) ≤ b) → sum_by f xs ≤ b * length xs
  sum_at_most b [] few = grind arith
  sum_at_most b (x ∷ xs) few = grind (arith, few 0, sum_at_most b xs (λ i. few (suc i)), sum_by-cons f x xs)

pub one_at_most : (b : Bool) → cond b 1 0 ≤ 1
one_at_most true = lit≤ tt
one_at_most false = lit≤ tt

pub count_at_most : (lo hi : ℕ) (xs : List ℕ) → sum_by (counts lo hi) xs ≤ length xs
count_at_most lo hi xs = omega (arith, sum_at_most (counts lo hi) 1 xs (λ i. one_at_most (is_from lo hi (get_or xs i 0))))

byte_at_most : (x : ℕ) → Fits w8 x → x ≤ 255
byte_at_most x h = omega arith

pub bytes_at_most : (xs : List ℕ) → ((i : ℕ) → Fits w8 (get_or xs i 0)) → sum xs ≤ 255 * length xs
bytes_at_most xs fit = sum_at_most (λ x. x) 255 xs (λ i. byte_at_most (get_or xs i 0) (fit i))

-- and so of the first n
pub sums_at_most : (xs : List ℕ) → ((i : ℕ) → Fits w8 (get_or xs i 0)) → (n : ℕ) → sum (take n xs) ≤ 255 * n
sums_at_most xs fit zero = grind arith
sums_at_most [] fit (suc n) = grind arith
sums_at_most (x ∷ xs) fit (suc n) =
    omega (arith, sums_at_most xs (λ i. fit (suc i)) n, byte_at_most x (fit 0), sum_by-cons (λ y. y) x (take n xs))
