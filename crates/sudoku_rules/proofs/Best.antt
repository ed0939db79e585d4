-- The best choice, one more cell at a time.
use Rattle.std.proofs.Common.{◌≡◌, ◌<◌, ◌≤◌, ℕ, zero, suc, ◌+◌, cond, ◌&&◌, eqb, ltb, length, get_or, Option, Some, None, ap, ◌∙◌, arith}
use Rattle.std.specs.Int.Count.{ones}
use Rattle.std.proofs.lemmas.Bool.{eq-eqb, ne_eqb, le-ltb, lt-ltb, and_right, and_from, cond-true, cond-false}
use Rattle.sudoku_law.specs.Grid.{Cells, choices, fewer}
use Rattle.sudoku_law.proofs.Below.{fewest_more}
use Rattle.sudoku_rules.specs.declared.look.Choice.{Choice}
use Rattle.sudoku_rules.proofs.Counted.{options_count}
use Rattle.sudoku_rules.specs.inside.Masks.{IsBest, AreOptions}

-- a cell that is not blank changes nothing
pub best_kept : (m : ℕ) (g : Cells) (n : ℕ) (best : Option Choice) → (get_or g n 0 ≡ 0 → ⊥) → IsBest m g n best → IsBest m g (n + 1) best
best_kept m g n None full is =
    fewest_more m g n ∙ ap (λ o. fewer m g n o) is ∙ ap (λ b. cond b (Some n) None) (ne_eqb (get_or g n 0) 0 full)
best_kept m g n (Some choice) full is = (
  fewest_more m g n ∙ ap (λ o. fewer m g n o) is.0
      ∙ ap (λ b. cond (b && ltb (choices m g n) (choices m g choice.cell)) (Some n) (Some choice.cell))
      (ne_eqb (get_or g n 0) 0 full),
  is.1,
)

-- a blank cell with as many candidates or more changes nothing
pub best_stays : (m : ℕ) (g : Cells) (n : ℕ) (choice : Choice) (count : ℕ) → get_or g n 0 ≡ 0 → count ≡ choices m g n
    → choice.count ≤ count → IsBest m g n (Some choice) → IsBest m g (n + 1) (Some choice)
best_stays m g n choice count blank is_count more is = (
  fewest_more m g n
      ∙ ap (λ o. fewer m g n o) is.0
      ∙ cond-false (eqb (get_or g n 0) 0 && ltb (choices m g n) (choices m g choice.cell)) (Some n) (Some choice.cell)
      (and_right (eqb (get_or g n 0) 0) (ltb (choices m g n) (choices m g choice.cell))
      (le-ltb (choices m g n) (choices m g choice.cell) (omega (arith, is.1.count, is_count, more)))),
  is.1,
)

-- the first blank cell is the best so far
pub best_first : (m : ℕ) (g : Cells) (n options : ℕ) → n < length g → get_or g n 0 ≡ 0 → AreOptions m g n options → IsBest m g n None
    → IsBest m g (n + 1) (Some (record { cell = n; options = options; count = ones options }))
best_first m g n options within blank are is = (
  fewest_more m g n ∙ ap (λ o. fewer m g n o) is ∙ ap (λ b. cond b (Some n) None) (eq-eqb (get_or g n 0) 0 blank),
  record { within = within; options = are; count = options_count m g n options are },
)

-- a blank cell with fewer candidates is the best so far
pub best_wins : (m : ℕ) (g : Cells) (n options : ℕ) (choice : Choice) → n < length g → get_or g n 0 ≡ 0 → AreOptions m g n options
    → ones options < choice.count → IsBest m g n (Some choice)
    → IsBest m g (n + 1) (Some (record { cell = n; options = options; count = ones options }))
best_wins m g n options choice within blank are fewer_ones is =
    let counted : ones options ≡ choices m g n = options_count m g n options are in (
      fewest_more m g n
          ∙ ap (λ o. fewer m g n o) is.0
          ∙ cond-true (eqb (get_or g n 0) 0 && ltb (choices m g n) (choices m g choice.cell)) (Some n) (Some choice.cell)
          (and_from (eqb (get_or g n 0) 0) (ltb (choices m g n) (choices m g choice.cell)) (eq-eqb (get_or g n 0) 0 blank)
          (lt-ltb (choices m g n) (choices m g choice.cell) (omega (arith, is.1.count, counted, fewer_ones)))),
      record { within = within; options = are; count = counted },
    )

-- cells that are not blank change nothing, however many
pub best_skips : (m : ℕ) (g : Cells) (n k : ℕ) (best : Option Choice) → ((j : ℕ) → n ≤ j → j < n + k → get_or g j 0 ≡ 0 → ⊥)
    → IsBest m g n best → IsBest m g (n + k) best
best_skips m g n zero best full is = let e : n + 0 ≡ n = omega arith in rw e is
best_skips m g n (suc k) best full is =
    let e : n + suc k ≡ n + 1 + k = omega arith in
    rw e (best_skips m g (n + 1) k best (λ j above below. full j (omega arith) (omega arith))
    (best_kept m g n best (full n (omega arith) (omega arith)) is))
