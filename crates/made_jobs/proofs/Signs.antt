-- The signs of a made puzzle are dots and digits.
use Rattle.std.proofs.Common.{◌≡◌, ◌∙◌, inl, inr, ℕ, zero, suc, ◌+◌, ◌-◌, ◌%◌, ◌<◌, ◌≤◌, ◌==◌, Bool, true, false, cond, not, ap, List, []}
use Rattle.std.proofs.Common.{◌∷◌, get_or, length, set, refl, sym, subst, arith, length-set}
use Rattle.std.specs.Prelude.{All, codes, swap}
use Rattle.std.proofs.lemmas.Bool.{cases_lt, eqb-true, false_from_ne_true}
use Rattle.std.proofs.lemmas.List.{get_or_past}
use Rattle.std.proofs.lemmas.List.Elements.{All-from_get_or, All-get_or, All-head, All-map, All-set, All-tail, All-weaker}
use Rattle.std.proofs.lemmas.List.Sums.{sum_by-cons}
use Rattle.rand_pcg.specs.Lcg.{Lcg}
use Rattle.made_jobs.specs.Made.{blanks, draw, exchange, exchanges, full_grid, puzzle, relabelled, shuffled, sign_for}
use Rattle.made_jobs.specs.Signs.{IsDigit, IsPuzzle, IsSign, filled}
use Rattle.made_jobs.proofs.Lengths.{puzzle_long, relabelled_long}
use Rattle.made_jobs.proofs.Relabelling.{grid_long, are_digits, grid_digit}

-- what holds of each element holds of each after an exchange
swap_keeps : (P : ℕ → Type 0) (xs : List ℕ) (i j : ℕ) → All P xs → All P (swap xs i j)
swap_keeps P [] i j all = all
swap_keeps P (x ∷ xs) i j all =
    All-set P (set (x ∷ xs) i (get_or (x ∷ xs) j x)) j (get_or (x ∷ xs) i x) (at i) (All-set P (x ∷ xs) i (get_or (x ∷ xs) j x) (at j) all)
  where
    at : (k : ℕ) → P (get_or (x ∷ xs) k x)
    at k = elim (cases_lt k (length (x ∷ xs))) [
      | inl within ↦ All-get_or P (x ∷ xs) k x within all
      | inr past ↦ subst P (sym (get_or_past (x ∷ xs) k x past)) (All-head P x xs all)
    ]

swap_long : (xs : List ℕ) (i j : ℕ) → length (swap xs i j) ≡ length xs
swap_long [] i j = refl
swap_long (x ∷ xs) i j =
    length-set (set (x ∷ xs) i (get_or (x ∷ xs) j x)) j (get_or (x ∷ xs) i x) ∙ length-set (x ∷ xs) i (get_or (x ∷ xs) j x)

-- nine digits
record AreNine (signs : List ℕ) : Type 0 where
  long : length signs ≡ 9
  each : All IsDigit signs

exchanges_keep : (place : ℕ) (at : List ℕ × Lcg) → AreNine at.0 → AreNine (exchanges place at).0
unfolding exchanges
exchanges_keep zero at nine = nine
exchanges_keep (suc before) at nine =
    exchanges_keep before (exchange (suc before) at) (record {
      long = swap_long at.0 (suc before) ((draw at.1).0 % (suc before + 1)) ∙ nine.long;
      each = swap_keeps IsDigit at.0 (suc before) ((draw at.1).0 % (suc before + 1)) nine.each;
    })

shuffled_nine : (generator : Lcg) → AreNine (shuffled generator).0
unfolding shuffled
shuffled_nine generator =
    exchanges_keep 8 (codes "123456789", generator) (record { long = refl; each = are_digits (codes "123456789") refl refl })

relabelled_digits : (signs : List ℕ) → AreNine signs → All IsDigit (relabelled signs)
unfolding relabelled
relabelled_digits signs nine =
    All-map IsDigit (sign_for signs) full_grid
    (All-from_get_or (λ digit. IsDigit (sign_for signs digit)) full_grid 0
    (λ place within. All-get_or IsDigit signs (get_or full_grid place 0 - 49) 0 (few place within) nine.each))
  where
    few : (place : ℕ) → place < length full_grid → get_or full_grid place 0 - 49 < length signs
    few place within = omega (arith, nine.long, (grid_digit place (omega (arith, within, grid_long))).1)

blanks_keep : (times : ℕ) (at : List ℕ × Lcg) → All IsSign at.0 → All IsSign (blanks times at).0
unfolding blanks
blanks_keep zero at all = all
blanks_keep (suc times) at all =
    All-set IsSign (blanks times at).0 ((draw (blanks times at).1).0 % 81) 46 (inl refl) (blanks_keep times at all)

-- a made puzzle is of dots and digits
pub puzzle_signs : (generator : Lcg) → IsPuzzle (puzzle generator).0
unfolding puzzle
puzzle_signs generator = record {
  long = puzzle_long generator;
  each = blanks_keep 40 (relabelled (shuffled generator).0, (shuffled generator).1)
      (All-weaker IsDigit IsSign (λ sign digit. inr digit) (relabelled (shuffled generator).0)
      (relabelled_digits (shuffled generator).0 (shuffled_nine generator)));
}

-- How many cells are filled.

abbrev is_filled : ℕ → ℕ
is_filled sign = cond (not (sign == 46)) 1 0

-- a cell that becomes a dot is one less at most
set_filled : (signs : List ℕ) (place : ℕ) → filled signs ≤ filled (set signs place 46) + 1
set_filled [] place = omega arith
set_filled (sign ∷ signs) zero =
    let was = sum_by-cons is_filled sign signs in
    let now = sum_by-cons is_filled 46 signs in
    let one = at_most (not (sign == 46)) in
    omega arith
  where
    at_most : (t : Bool) → cond t 1 0 ≤ 1
    at_most true = omega arith
    at_most false = omega arith
set_filled (sign ∷ signs) (suc place) =
    let was = sum_by-cons is_filled sign signs in
    let now = sum_by-cons is_filled sign (set signs place 46) in
    let later = set_filled signs place in
    omega arith

blanks_filled : (times : ℕ) (at : List ℕ × Lcg) → filled at.0 ≤ filled (blanks times at).0 + times
unfolding blanks
blanks_filled zero at = omega arith
blanks_filled (suc times) at =
    let before = blanks_filled times at in
    let one = set_filled (blanks times at).0 ((draw (blanks times at).1).0 % 81) in
    omega arith

digits_filled : (signs : List ℕ) → All IsDigit signs → filled signs ≡ length signs
digits_filled [] all = refl
digits_filled (sign ∷ signs) all =
    let digit = All-head IsDigit sign signs all in
    let here = sum_by-cons is_filled sign signs in
    let no_dot : (sign == 46) ≡ false =
    false_from_ne_true (sign == 46) (λ e. let same = eqb-true sign 46 e in omega (arith, same, digit.0)) in
    let counts : is_filled sign ≡ 1 = ap (λ (t : Bool). cond (not t) 1 0) no_dot in
    let later = digits_filled signs (All-tail IsDigit sign signs all) in
    omega arith

-- a made puzzle has at least 41 digits
pub puzzle_filled : (generator : Lcg) → 41 ≤ filled (puzzle generator).0
unfolding puzzle
puzzle_filled generator =
    let digits = relabelled_digits (shuffled generator).0 (shuffled_nine generator) in
    let all = digits_filled (relabelled (shuffled generator).0) digits in
    let long = relabelled_long (shuffled generator).0 in
    let left = blanks_filled 40 (relabelled (shuffled generator).0, (shuffled generator).1) in
    omega arith
