-- Jobs that are made, by computation: those of a seed, and which puzzles have a batch after them. And a grid that is not
-- among theirs, since it has no solution.
use Rattle.std.proofs.Common.{◌≡◌, ◌∙◌, ℕ, List, [], ◌∷◌, arith, codes, refl, replicate, sym}
use Rattle.job_text.specs.declared.items.Item.TheVariants.{Count, Max, Sum}
use Rattle.job_text.specs.declared.jobs.Job.TheVariants.{Batch, Puzzle}
use Rattle.made_jobs.specs.Made.{blanks, draw, exchanges, full_grid, lines_of, made, puzzle, relabelled, seeded, shuffled}
use Rattle.made_law.specs.Jobs.{made_jobs, puzzle_jobs}
use Rattle.made_law.specs.Solved.{IsSolvable}
use Rattle.sudoku_law.proofs.Pairwise.{pairwise_from_solution}

first_grid : List ℕ
first_grid =
    9 ∷ 7 ∷ 5 ∷ 6 ∷ 3 ∷ 2 ∷ 1 ∷ 0 ∷ 0 ∷ 6 ∷ 0 ∷ 8 ∷ 4 ∷ 1 ∷ 9 ∷ 0 ∷ 0 ∷ 2 ∷ 0 ∷ 1 ∷ 0 ∷ 0 ∷ 5 ∷ 8 ∷ 0 ∷ 0 ∷ 0 ∷
    0 ∷ 9 ∷ 0 ∷ 3 ∷ 6 ∷ 4 ∷ 5 ∷ 0 ∷ 7 ∷ 0 ∷ 8 ∷ 6 ∷ 2 ∷ 0 ∷ 0 ∷ 0 ∷ 1 ∷ 4 ∷ 3 ∷ 4 ∷ 7 ∷ 0 ∷ 0 ∷ 5 ∷ 2 ∷ 0 ∷ 6 ∷
    0 ∷ 0 ∷ 4 ∷ 9 ∷ 7 ∷ 3 ∷ 0 ∷ 2 ∷ 5 ∷ 0 ∷ 2 ∷ 0 ∷ 5 ∷ 4 ∷ 1 ∷ 6 ∷ 0 ∷ 9 ∷ 7 ∷ 0 ∷ 0 ∷ 8 ∷ 2 ∷ 6 ∷ 0 ∷ 3 ∷ 0 ∷ []

second_grid : List ℕ
second_grid =
    5 ∷ 2 ∷ 0 ∷ 1 ∷ 0 ∷ 0 ∷ 6 ∷ 0 ∷ 0 ∷ 0 ∷ 9 ∷ 0 ∷ 3 ∷ 0 ∷ 0 ∷ 0 ∷ 8 ∷ 0 ∷ 0 ∷ 0 ∷ 7 ∷ 0 ∷ 8 ∷ 4 ∷ 0 ∷ 1 ∷ 9 ∷
    0 ∷ 5 ∷ 6 ∷ 9 ∷ 1 ∷ 3 ∷ 8 ∷ 4 ∷ 2 ∷ 0 ∷ 0 ∷ 1 ∷ 0 ∷ 5 ∷ 2 ∷ 9 ∷ 0 ∷ 0 ∷ 9 ∷ 3 ∷ 0 ∷ 6 ∷ 4 ∷ 8 ∷ 7 ∷ 5 ∷ 1 ∷
    6 ∷ 1 ∷ 0 ∷ 5 ∷ 0 ∷ 9 ∷ 4 ∷ 0 ∷ 8 ∷ 0 ∷ 7 ∷ 9 ∷ 0 ∷ 3 ∷ 0 ∷ 1 ∷ 0 ∷ 5 ∷ 0 ∷ 0 ∷ 5 ∷ 4 ∷ 0 ∷ 1 ∷ 0 ∷ 9 ∷ 0 ∷ []

two_puzzles : made_jobs 2 (seeded 2) ≡ Puzzle first_grid ∷ Puzzle second_grid ∷ []
unfolding first_grid second_grid blanks draw exchanges full_grid lines_of made puzzle relabelled seeded shuffled made_jobs
two_puzzles = refl

seventh : puzzle_jobs 7 (codes "1.9") ≡ Puzzle (1 ∷ 0 ∷ 9 ∷ []) ∷ []
seventh = refl

eighth : puzzle_jobs 8 (codes "1.9") ≡ Puzzle (1 ∷ 0 ∷ 9 ∷ []) ∷ Batch (codes "1.9") (Count 49 53 ∷ Sum ∷ Max ∷ []) ∷ []
eighth = refl

twice_in_a_row : List ℕ
twice_in_a_row = 5 ∷ 5 ∷ replicate 79 0

twice_is_not_solvable : IsSolvable twice_in_a_row → ⊥
unfolding twice_in_a_row
twice_is_not_solvable solved =
    (pairwise_from_solution 3 twice_in_a_row solved.0 solved.1).once 1 0 (omega arith) (omega (arith, solved.1.long)) refl
    (solved.1.keeps 1 (omega arith) (λ none. omega (arith, none)) ∙ sym (solved.1.keeps 0 (omega arith) (λ none. omega (arith, none))))
