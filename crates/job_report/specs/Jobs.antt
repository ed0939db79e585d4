-- What is made of jobs.
use Rattle.std.specs.Prelude.{ℕ, List, [], ◌∷◌, length, sum_by}
use Rattle.sudoku_law.specs.Grid.{Cells}
use Rattle.sudoku_law.specs.Tree.{solutions, boards}
use Rattle.sudoku_rules.specs.Sides.{tree_of}
use Rattle.job_text.specs.declared.jobs.Job.{Job}
use Rattle.job_text.specs.declared.jobs.Job.TheVariants.{Puzzle, Batch}

-- the puzzles among the jobs, in input order
unfoldable pub puzzles : List Job → List Cells
puzzles [] = []
puzzles (Puzzle g ∷ jobs) = g ∷ puzzles jobs
puzzles (Batch common items ∷ jobs) = puzzles jobs

-- how many items a job has
abbrev pub item_count : Job → ℕ
item_count (Puzzle g) = 0
item_count (Batch common items) = length items

-- how many boards and solutions are made of the puzzles
abbrev pub all_boards : ℕ → ℕ → List Job → ℕ
all_boards budget grain jobs = sum_by (λ g. boards grain (tree_of budget g)) (puzzles jobs)

-- how many solutions the puzzles have
abbrev pub all_solutions : ℕ → List Job → ℕ
all_solutions budget jobs = sum_by (λ g. length (solutions (tree_of budget g))) (puzzles jobs)

-- how many items the batches have: one job and one answer is made of each
abbrev pub all_items : List Job → ℕ
all_items jobs = sum_by item_count jobs
