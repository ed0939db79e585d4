-- Lanes that add up what is read, and lanes that are chosen by a test.
use Rattle.std.proofs.Common.{◌≡◌, ◌≤◌, ◌<◌, ◌+◌, ◌*◌, ◌^◌, ℕ, List, [], ◌∷◌, length, Bool, true, false, cond, ◌&&◌, nat_le, map, replicate}
use Rattle.std.proofs.Common.{take, drop, slice_range, sum_by, arith, refl, rules, ap, ◌∙◌, sym, subst, Fits, w8, w16, w32}
use Rattle.std.proofs.lemmas.Simd.{Each1-zip2, Each2-of, length-zip2, length-chunk, sum-zip2, tops_compared, zip2_splat, zip2_splat_left}
use Rattle.std.proofs.lemmas.Simd.{splat_is_map, sum_fits, fold-sum}
use Rattle.std.proofs.lemmas.List.{length-map}
use lib.Lanes.{zip2, sel_l, top, sum_l, fold_l, Each1, Each2, Steps}
use mir.Syntax.{Width}
use Rattle.lane_bytes.specs.Answers.{is_from}
use Rattle.lane_bytes.proofs.Parts.{counts, lanes_add, rest_adds, one_at_most}

-- The 32 lanes add up f over the first `from` elements, each at most b, so no lane is more than its share of b * from.
pub record HaveRead (f : ℕ → ℕ) (b : ℕ) (xs : List ℕ) (from : ℕ) (lanes : List ℕ) : Type 0 where
  pub long : length lanes ≡ 32
  pub shares : Each1 (λ n. 32 * n ≤ b * from) lanes
  pub adds : sum_l lanes ≡ sum_by f (take from xs)

pub same_map : (xs : List ℕ) → map (λ x. x) xs ≡ xs
same_map [] = refl
same_map (x ∷ xs) = ap (λ l. x ∷ l) (same_map xs)

total_is_sum : (xs : List ℕ) → fold_l (λ s x. s + x) 0 (map (λ x. x) xs) ≡ sum_l xs
total_is_sum xs = ap (fold_l (λ s x. s + x) 0) (same_map xs) ∙ fold-sum 0 xs ∙ omega arith

share_grows : (b from n x : ℕ) → 32 * n ≤ b * from → x ≤ b → 32 * (n + x) ≤ b * (from + 32)
share_grows b from n x p q = grind (arith, p, q)

module _ (f : ℕ → ℕ) (b : ℕ) (xs : List ℕ) (from : ℕ) (lanes : List ℕ) (read : HaveRead f b xs from lanes) where
  -- one element more a lane
  pub reads_more : (more : List ℕ) → from + 32 ≤ length xs → Each1 (λ x. x ≤ b) more → more ≡ map f (take 32 (drop from xs))
      → HaveRead f b xs (from + 32) (zip2 (λ a x. a + x) lanes more)
  reads_more more room small same =
      let long : length more ≡ 32 = ap length same ∙ length-map (take 32 (drop from xs)) f ∙ length-chunk from 32 xs room in
      let alike = read.long ∙ sym long in record {
        long = length-zip2 (λ a x. a + x) lanes more alike ∙ read.long;
        shares = Each1-zip2 (λ a x. a + x) (λ n. 32 * n ≤ b * (from + 32)) lanes more
            (Each2-of (λ n. 32 * n ≤ b * from) (λ x. x ≤ b) (λ n x. 32 * (n + x) ≤ b * (from + 32)) (λ n x p q. share_grows b from n x p q)
            lanes more read.shares small);
        adds = sum-zip2 lanes more alike ∙ (λ i. read.adds i + ap sum_l same i) ∙ sym (lanes_add f xs from 32);
      }

  -- and each lane still fits, where its share of all that is read is below what it can hold
  pub more_fits : (w : Width) (limit : ℕ) → ((n : ℕ) → n < limit → Fits w n) → b * from + 32 * b < 32 * limit → (more : List ℕ)
      → Each1 (λ x. x ≤ b) more → Each2 (λ a x. Fits w (a + x)) lanes more
  more_fits w top fits room more small =
      Each2-of (λ n. 32 * n ≤ b * from) (λ x. x ≤ b) (λ n x. Fits w (n + x)) (λ n x p q. fits (n + x) (omega (arith, p, q, room))) lanes
      more read.shares small

  -- the lanes added up, and the rest
  pub whole_is_sum : (rest : ℕ) → rest ≡ sum_by f (slice_range xs from (length xs))
      → fold_l (λ s x. s + x) 0 (map (λ x. x) lanes) + rest ≡ sum_by f xs
  whole_is_sum rest same = (λ i. (total_is_sum lanes ∙ read.adds) i + same i) ∙ rest_adds f xs from

pub fits_8 : (n : ℕ) → n < 256 → Fits w8 n
fits_8 n lt = search rules

pub fits_16 : (n : ℕ) → n < 65536 → Fits w16 n
fits_16 n lt = search rules

pub each_at_most_one : (lo hi : ℕ) (xs : List ℕ) → Each1 (λ x. x ≤ 1) (map (counts lo hi) xs)
each_at_most_one lo hi [] = tt
each_at_most_one lo hi (x ∷ xs) = (one_at_most (is_from lo hi x), each_at_most_one lo hi xs)

-- no step of adding up the lanes overflows
pub total_fits : (xs : List ℕ) → sum_l xs < 2 ^ 32 → Steps (λ s x. Fits w32 (s + x)) (λ s x. s + x) 0 (map (λ x. x) xs)
total_fits xs few =
    subst (λ (l : List ℕ). Steps (λ s x. Fits w32 (s + x)) (λ s x. s + x) 0 l) (sym (same_map xs)) (sum_fits w32 0 xs (omega (arith, few)))

chosen : (t : ℕ → Bool) (f g : ℕ → ℕ) (xs : List ℕ) → sel_l (map t xs) (map f xs) (map g xs) ≡ map (λ x. cond (t x) (f x) (g x)) xs
chosen t f g [] = refl
chosen t f g (x ∷ xs) = ap (λ l. cond (t x) (f x) (g x) ∷ l) (chosen t f g xs)

abbrev one : Bool → ℕ
one b = cond b 1 0

both : (a b : Bool) → cond b (one a) 0 ≡ one (a && b)
both true true = refl
both true false = refl
both false true = refl
both false false = refl

both_each : (lo hi : ℕ) (xs : List ℕ) → map (λ x. cond (nat_le x hi) (one (nat_le lo x)) 0) xs ≡ map (counts lo hi) xs
both_each lo hi [] = refl
both_each lo hi (x ∷ xs) = λ i. both (nat_le lo x) (nat_le x hi) i ∷ both_each lo hi xs i

-- what a comparison of bytes says of each lane
abbrev told : List ℕ → List ℕ → List Bool
told xs ys = map (top 7) (zip2 (λ a b. cond (nat_le a b) 255 0) xs ys)

-- the lanes that are 1 for a byte from lo to hi, and 0 for another
pub ones_are_counts : (lo hi : ℕ) (xs : List ℕ) → length xs ≡ 32
    → sel_l (told xs (replicate 32 hi)) (sel_l (told (replicate 32 lo) xs) (replicate 32 1) (replicate 32 0)) (replicate 32 0)
    ≡ map (counts lo hi) xs
ones_are_counts lo hi xs long =
    let zeros = splat_is_map xs 32 0 long in
    let ones = splat_is_map xs 32 1 long in
    let from : told (replicate 32 lo) xs ≡ map (λ x. nat_le lo x) xs = tops_compared w8 nat_le (replicate 32 lo) xs
    ∙ zip2_splat_left nat_le lo 32 xs long in
    let to : told xs (replicate 32 hi) ≡ map (λ x. nat_le x hi) xs = tops_compared w8 nat_le xs (replicate 32 hi)
    ∙ zip2_splat nat_le xs 32 hi long in
    let inner : sel_l (told (replicate 32 lo) xs) (replicate 32 1) (replicate 32 0) ≡ map (λ x. one (nat_le lo x)) xs =
    (λ i. sel_l (from i) (ones i) (zeros i)) ∙ chosen (λ x. nat_le lo x) (λ _. 1) (λ _. 0) xs in
    (λ i. sel_l (to i) (inner i) (zeros i)) ∙ chosen (λ x. nat_le x hi) (λ x. one (nat_le lo x)) (λ _. 0) xs ∙ both_each lo hi xs
