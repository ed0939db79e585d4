-- The tables of the cells that share with a cell, looked at bit by bit.
use Rattle.std.proofs.Common.{◌≡◌, ◌<◌, ℕ, zero, suc, ◌^◌, Bool, true, false, ◌&&◌, not, List, get_or, refl, sym, ap, ◌∙◌, inl, inr, arith}
use Rattle.std.proofs.Common.{eqb, ltb}
use Rattle.std.proofs.lemmas.Bool.{cases_eq, cases_lt, and_parts, and_left, ltb-true, lt-ltb, le-ltb}
use Rattle.std.proofs.lemmas.Nat.Bits.{bit_at_above}
use Rattle.sudoku_law.specs.Grid.{shares, size}
use Rattle.sudoku_rules.specs.declared.planes.TheConstants.{SHARING_FOUR, SHARING_NINE}
use Rattle.sudoku_rules.specs.inside.Planes.{has}

-- each number below n passes
unfoldable each_below : ℕ → (ℕ → Bool) → Bool
each_below zero p = true
each_below (suc n) p = p n && each_below n p

each_at : (n : ℕ) (p : ℕ → Bool) (k : ℕ) → each_below n p ≡ true → k < n → p k ≡ true
unfolding each_below
each_at zero p k all below = absurd (omega arith)
each_at (suc n) p k all below = elim (cases_eq k n) [
  | inl same ↦ ap p same ∙ (and_parts (p n) (each_below n p) all).0
  | inr differs ↦ each_at n p k (and_parts (p n) (each_below n p) all).1 (omega arith)
]

abbrev alike : Bool → Bool → Bool
alike true b = b
alike false b = not b

alike_is : (a b : Bool) → alike a b ≡ true → a ≡ b
alike_is true b is = sym is
alike_is false true is = is
alike_is false false is = refl

-- the plane has the cells of a grid that share with this one
abbrev is_right : ℕ → ℕ → ℕ → Bool
is_right m cell plane = ltb plane (2 ^ size m) && each_below (size m) (λ k. alike (has plane k) (shares m k cell))

abbrev all_right : ℕ → List ℕ → Bool
all_right m table = each_below (size m) (λ cell. is_right m cell (get_or table cell 0))

four_right : all_right 2 SHARING_FOUR ≡ true
unfolding each_below
four_right = refl

nine_right : all_right 3 SHARING_NINE ≡ true
unfolding each_below
nine_right = refl

right_is : (m cell plane k : ℕ) → is_right m cell plane ≡ true → has plane k ≡ (ltb k (size m) && shares m k cell)
right_is m cell plane k right =
    let parts = and_parts (ltb plane (2 ^ size m)) (each_below (size m) (λ j. alike (has plane j) (shares m j cell))) right in
    elim (cases_lt k (size m)) [
      | inl less ↦
          alike_is (has plane k) (shares m k cell) (each_at (size m) (λ j. alike (has plane j) (shares m j cell)) k parts.1 less)
          ∙ sym (ap (λ b. b && shares m k cell) (lt-ltb k (size m) less))
      | inr more ↦
          ap (λ b. eqb b 1) (bit_at_above plane (size m) k (ltb-true plane (2 ^ size m) parts.0) more)
          ∙ sym (and_left (ltb k (size m)) (shares m k cell) (le-ltb k (size m) more))
    ]

-- the table for side 4 has the cells that share with each cell
pub sharing_four : (cell k : ℕ) → cell < size 2 → has (get_or SHARING_FOUR cell 0) k ≡ (ltb k (size 2) && shares 2 k cell)
sharing_four cell k within =
    right_is 2 cell (get_or SHARING_FOUR cell 0) k (each_at (size 2) (λ c. is_right 2 c (get_or SHARING_FOUR c 0)) cell four_right within)

-- the table for side 9 has the cells that share with each cell
pub sharing_nine : (cell k : ℕ) → cell < size 3 → has (get_or SHARING_NINE cell 0) k ≡ (ltb k (size 3) && shares 3 k cell)
sharing_nine cell k within =
    right_is 3 cell (get_or SHARING_NINE cell 0) k (each_at (size 3) (λ c. is_right 3 c (get_or SHARING_NINE c 0)) cell nine_right within)
