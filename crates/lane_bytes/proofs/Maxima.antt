-- The greatest of lists that are joined, and of lanes.
use Rattle.std.proofs.Common.{◌≡◌, ◌≤◌, ◌+◌, ◌<◌, ℕ, max, List, [], ◌∷◌, ◌++◌, length, cond, map, nat_lt, take, drop, slice_range, get_or}
use Rattle.std.proofs.Common.{arith, refl, ap, ◌∙◌, sym, w8}
use Rattle.std.proofs.lemmas.Bool.Decides.{nat_tests}
use Rattle.std.proofs.Math.Nat.{zero-max, max-zero}
use Rattle.std.proofs.Math.Seq.{take-add}
use Rattle.std.proofs.lemmas.List.{take-append-drop, take_more}
use Rattle.std.proofs.lemmas.Simd.{tops_compared, length-zip2, length-sel_l, length-chunk}
use lib.Lanes.{zip2, sel_l, top}
use Rattle.lane_bytes.specs.Answers.{greatest}
use Rattle.lane_bytes.proofs.Parts.{range_is_rest}

max_assoc : (a b c : ℕ) → max (max a b) c ≡ max a (max b c)
max_assoc a b c = omega arith

greatest_of_both : (xs ys : List ℕ) → greatest (xs ++ ys) ≡ max (greatest xs) (greatest ys)
greatest_of_both [] ys = sym (zero-max (greatest ys))
greatest_of_both (x ∷ xs) ys = ap (max x) (greatest_of_both xs ys) ∙ sym (max_assoc x (greatest xs) (greatest ys))

-- one element more, whatever the least answer is
pub one_more : (least : ℕ) (xs : List ℕ) (i : ℕ) → i < length xs
    → max least (greatest (take (i + 1) xs)) ≡ max (max least (greatest (take i xs))) (get_or xs i 0)
one_more least xs i lt =
    ap (λ l. max least (greatest l)) (take_more xs i 0 lt)
    ∙ ap (max least) (greatest_of_both (take i xs) (get_or xs i 0 ∷ []) ∙ ap (max (greatest (take i xs))) (max-zero (get_or xs i 0)))
    ∙ sym (max_assoc least (greatest (take i xs)) (get_or xs i 0))

-- the rest makes it whole
pub greatest_with_rest : (xs : List ℕ) (from : ℕ) → max (greatest (take from xs)) (greatest (slice_range xs from (length xs))) ≡ greatest xs
greatest_with_rest xs from =
    ap (λ l. max (greatest (take from xs)) (greatest l)) (range_is_rest xs from) ∙ sym (greatest_of_both (take from xs) (drop from xs))
    ∙ ap greatest (take-append-drop from xs)

-- the lanes that `simd_max` gives
abbrev greater : List ℕ → List ℕ → List ℕ
greater xs ys = sel_l (map (top 7) (zip2 (λ a b. cond (nat_lt a b) 255 0) xs ys)) ys xs

step : (x y a b : ℕ) → max (cond (nat_lt x y) y x) (max a b) ≡ max (max x a) (max y b)
step x y a b = grind (arith, nat_tests)

chosen : (xs ys : List ℕ) → length xs ≡ length ys → greatest (sel_l (zip2 nat_lt xs ys) ys xs) ≡ max (greatest xs) (greatest ys)
chosen [] [] long = refl
chosen [] (y ∷ ys) long = absurd (omega arith)
chosen (x ∷ xs) [] long = absurd (omega arith)
chosen (x ∷ xs) (y ∷ ys) long = ap (max (cond (nat_lt x y) y x)) (chosen xs ys (omega arith)) ∙ step x y (greatest xs) (greatest ys)

-- lanes that have the greatest before a place, and those from there on
pub lanes_more : (most xs : List ℕ) (from : ℕ) → length most ≡ 32 → from + 32 ≤ length xs → greatest most ≡ greatest (take from xs)
    → (length (greater most (take 32 (drop from xs))) ≡ 32)
    × (greatest (greater most (take 32 (drop from xs))) ≡ greatest (take (from + 32) xs))
lanes_more most xs from long room same =
    let part = take 32 (drop from xs) in
    let alike : length most ≡ length part = long ∙ sym (length-chunk from 32 xs room) in
    let is : greater most part ≡ sel_l (zip2 nat_lt most part) part most =
    ap (λ ms. sel_l ms part most) (tops_compared w8 nat_lt most part) in
    let few = length-zip2 nat_lt most part alike in (
      ap length is ∙ length-sel_l (zip2 nat_lt most part) part most (few ∙ alike) few ∙ few ∙ long,
      ap greatest is ∙ chosen most part alike ∙ ap (λ m. max m (greatest part)) same ∙ sym (greatest_of_both (take from xs) part)
          ∙ ap greatest (sym (take-add from 32 xs)),
    )
