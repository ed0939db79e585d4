-- The full grid is of digits from 1 to 9, and is relabelled cell by cell.
use Rattle.std.proofs.Common.{◌≡◌, ◌∙◌, ℕ, ◌+◌, ◌-◌, ◌<◌, ◌≤◌, List, [], ◌∷◌, ◌++◌, get_or, length, map, set, take, true, refl, sym, ap}
use Rattle.std.proofs.Common.{arith}
use Rattle.std.specs.Prelude.{All, nat_le}
use Rattle.std.specs.List.{list_all}
use Rattle.std.proofs.lemmas.Bool.{leb-true}
use Rattle.std.proofs.lemmas.List.{map_more, take_all, take_more_set}
use Rattle.std.proofs.lemmas.List.Elements.{All-from_get_or, All-get_or}
use Rattle.std.proofs.lemmas.List.Sums.{AllPass-from_list_all}
use Rattle.made_jobs.specs.Made.{full_grid, relabelled, sign_for}
use Rattle.made_jobs.specs.Signs.{IsDigit}

-- the full grid has 81 cells
pub grid_long : length full_grid ≡ 81
unfolding full_grid
grid_long = refl

-- digits, by two tests
pub are_digits : (signs : List ℕ) → list_all (λ sign. nat_le 49 sign) signs ≡ true → list_all (λ sign. nat_le sign 57) signs ≡ true
    → All IsDigit signs
are_digits signs not_low not_high =
    All-from_get_or IsDigit signs 0
    (λ place within. (
      leb-true 49 (get_or signs place 0)
          (All-get_or (λ sign. nat_le 49 sign ≡ true) signs place 0 within (AllPass-from_list_all (λ sign. nat_le 49 sign) signs not_low)),
      leb-true (get_or signs place 0) 57
          (All-get_or (λ sign. nat_le sign 57 ≡ true) signs place 0 within (AllPass-from_list_all (λ sign. nat_le sign 57) signs not_high)),
    ))

grid_digits : All IsDigit full_grid
unfolding full_grid
grid_digits = are_digits full_grid refl refl

-- each cell of the full grid is a digit from 1 to 9
pub grid_digit : (place : ℕ) → place < 81 → IsDigit (get_or full_grid place 0)
grid_digit place within = All-get_or IsDigit full_grid place 0 (omega (arith, within, grid_long)) grid_digits

module _ (signs : List ℕ) where
  -- one more cell has its sign
  pub relabel_on : (cells : List ℕ) (place from : ℕ) → place < 81 → length cells ≡ 81 → from ≡ get_or full_grid place 0 - 49
      → take place cells ≡ map (sign_for signs) (take place full_grid)
      → take (place + 1) (set cells place (get_or signs from 0)) ≡ map (sign_for signs) (take (place + 1) full_grid)
  relabel_on cells place from within long is before =
      take_more_set cells place (get_or signs from 0) (omega (arith, within, long))
      ∙ ap (λ xs. xs ++ get_or signs from 0 ∷ []) before
      ∙ ap (λ n. map (sign_for signs) (take place full_grid) ++ get_or signs n 0 ∷ []) is
      ∙ sym (map_more (sign_for signs) full_grid place 0 (omega (arith, within, grid_long)))

  -- all cells have their signs
  pub relabel_done : (cells : List ℕ) (place : ℕ) → 81 ≤ place → length cells ≡ 81
      → take place cells ≡ map (sign_for signs) (take place full_grid) → cells ≡ relabelled signs
  unfolding relabelled
  relabel_done cells place all long is =
      sym (take_all place cells (omega (arith, all, long)))
      ∙ is
      ∙ ap (λ xs. map (sign_for signs) xs) (take_all place full_grid (omega (arith, all, grid_long)))
