-- How many units of each work type the work on a board makes.
use Rattle.std.proofs.Common.{◌≡◌, ℕ, ◌+◌, Bool, true, false, cond, List, [], ◌∷◌, length, map, refl, ap, ◌∙◌, arith, count_by}
use Rattle.std.proofs.lemmas.List.Sums.{sum_by-append, sum_by-cons}
use Rattle.sudoku_law.specs.Grid.{Cells}
use Rattle.job_units.specs.Puts.{counts, is_kind}
use Rattle.job_units.specs.Works.{child_of, made_by, solution_at, walk_of}
use Rattle.job_units.specs.declared.boards.Board.{Board}
use Rattle.job_units.specs.declared.units.Made.{Made}

-- 1 for a unit of this work type, 0 for another
abbrev one_if_kind : ℕ → Made → ℕ
one_if_kind kind unit = cond (is_kind kind unit) 1 0

-- of units that are made alike, all are of one work type, and none is of another
module _ (X : Type 0) (into : X → Made) (kind : ℕ) where
  -- if each passes, all are counted
  pub all_counted : ((x : X) → is_kind kind (into x) ≡ true) → (xs : List X) → count_by (is_kind kind) (map into xs) ≡ length xs
  all_counted is [] = refl
  all_counted is (x ∷ xs) =
      let one : Bool → ℕ = λ b. cond b 1 0 in
      omega (arith, sum_by-cons (one_if_kind kind) (into x) (map into xs), ap one (is x), all_counted is xs)

  -- if each fails, nothing is counted
  pub none_counted : ((x : X) → is_kind kind (into x) ≡ false) → (xs : List X) → count_by (is_kind kind) (map into xs) ≡ 0
  none_counted is [] = refl
  none_counted is (x ∷ xs) =
      let one : Bool → ℕ = λ b. cond b 1 0 in
      omega (arith, sum_by-cons (one_if_kind kind) (into x) (map into xs), ap one (is x), none_counted is xs)

-- the boards that it hands out and its solutions, by any count of the two
in_parts : (grain : ℕ) (b : Board) (kind boards found : ℕ)
    → count_by (is_kind kind) (map (child_of b.puzzle) (walk_of grain b).children) ≡ boards
    → count_by (is_kind kind) (map (solution_at b.puzzle) (walk_of grain b).solutions) ≡ found
    → count_by (is_kind kind) (made_by grain b) ≡ boards + found
in_parts grain b kind boards found e f =
    omega (
      arith,
      sum_by-append (one_if_kind kind) (map (child_of b.puzzle) (walk_of grain b).children)
          (map (solution_at b.puzzle) (walk_of grain b).solutions),
      e,
      f,
    )

-- the work on a board makes one board for each child of its walk
pub boards_by : (grain : ℕ) (b : Board) → count_by (is_kind 0) (made_by grain b) ≡ length (walk_of grain b).children
boards_by grain b =
    let e = in_parts grain b 0 (length (walk_of grain b).children) 0
    (all_counted (ℕ × Cells) (child_of b.puzzle) 0 (λ c. refl) (walk_of grain b).children)
    (none_counted Cells (solution_at b.puzzle) 0 (λ g. refl) (walk_of grain b).solutions) in
    omega (arith, e)

-- the work on a board makes one solution for each that its walk finds
pub solutions_by : (grain : ℕ) (b : Board) → count_by (is_kind 1) (made_by grain b) ≡ length (walk_of grain b).solutions
solutions_by grain b =
    let e = in_parts grain b 1 0 (length (walk_of grain b).solutions)
    (none_counted (ℕ × Cells) (child_of b.puzzle) 1 (λ c. refl) (walk_of grain b).children)
    (all_counted Cells (solution_at b.puzzle) 1 (λ g. refl) (walk_of grain b).solutions) in
    omega (arith, e)

-- no job and no answer is among them
pub no_jobs_by : (grain : ℕ) (b : Board) → count_by (is_kind 2) (made_by grain b) ≡ 0
no_jobs_by grain b = in_parts grain b 2 0 0 (none_counted (ℕ × Cells) (child_of b.puzzle) 2 (λ c. refl) (walk_of grain b).children)
    (none_counted Cells (solution_at b.puzzle) 2 (λ g. refl) (walk_of grain b).solutions)

-- the work on a board makes no answer
pub no_answers_by : (grain : ℕ) (b : Board) → count_by (is_kind 3) (made_by grain b) ≡ 0
no_answers_by grain b = in_parts grain b 3 0 0 (none_counted (ℕ × Cells) (child_of b.puzzle) 3 (λ c. refl) (walk_of grain b).children)
    (none_counted Cells (solution_at b.puzzle) 3 (λ g. refl) (walk_of grain b).solutions)

-- all four
pub counts_by : (grain : ℕ) (b : Board)
    → counts (made_by grain b) ≡ length (walk_of grain b).children ∷ length (walk_of grain b).solutions ∷ 0 ∷ 0 ∷ []
counts_by grain b =
    let made : List Made = made_by grain b in
    let four : ℕ → ℕ → ℕ → ℕ → List ℕ = λ w x y z. w ∷ x ∷ y ∷ z ∷ [] in
    ap (λ n. four n (count_by (is_kind 1) made) (count_by (is_kind 2) made) (count_by (is_kind 3) made)) (boards_by grain b)
    ∙ ap (λ n. four (length (walk_of grain b).children) n (count_by (is_kind 2) made) (count_by (is_kind 3) made)) (solutions_by grain b)
    ∙ ap (λ n. four (length (walk_of grain b).children) (length (walk_of grain b).solutions) n (count_by (is_kind 3) made))
    (no_jobs_by grain b)
    ∙ ap (λ n. four (length (walk_of grain b).children) (length (walk_of grain b).solutions) 0 n) (no_answers_by grain b)
