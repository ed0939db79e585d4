-- The summary of the jobs of an input, in place of their report.
use Rattle.std.specs.Prelude.{ℕ, Bool, true, false, List, ◌++◌, length, codes, decimal, count_by, sum_by, if◌then◌else◌}
use Rattle.sudoku_law.specs.Grid.{Cells}
use Rattle.sudoku_law.specs.Tree.{is_over, solutions}
use Rattle.sudoku_rules.specs.Sides.{tree_of}
use Rattle.job_text.specs.declared.jobs.Job.{Job}
use Rattle.job_text.specs.declared.jobs.Job.TheVariants.{Puzzle, Batch}
use Rattle.job_report.specs.Jobs.{all_boards, all_items, all_solutions, puzzles}
use Rattle.job_report.specs.Report.{counted, totals}

-- some node of the puzzle's tree is over
abbrev pub is_over_puzzle : ℕ → Cells → Bool
is_over_puzzle budget g = is_over (tree_of budget g)

-- how many solutions a puzzle has in its report: a puzzle that is over has none there
abbrev pub solutions_reported : ℕ → Cells → ℕ
solutions_reported budget g = if is_over_puzzle budget g then 0 else length (solutions (tree_of budget g))

-- the job is a batch
abbrev pub is_batch : Job → Bool
is_batch (Puzzle g) = false
is_batch (Batch common items) = true

-- how many puzzles there are, how many of them are over, and how many solutions the others have
abbrev pub puzzles_line : ℕ → ℕ → ℕ → List ℕ
puzzles_line count overs solved =
    counted (codes "puzzles " ++ decimal count ++ codes " over " ++ decimal overs ++ codes " solutions") solved

-- how many batches there are, and how many items they have together
abbrev pub batches_line : ℕ → ℕ → List ℕ
batches_line count items = counted (codes "batches " ++ decimal count ++ codes " items") items

-- the counts of jobs: of puzzles, of batches, and the totals
abbrev pub summary : ℕ → ℕ → List Job → List ℕ
summary budget grain jobs =
    puzzles_line (length (puzzles jobs)) (count_by (is_over_puzzle budget) (puzzles jobs))
    (sum_by (solutions_reported budget) (puzzles jobs))
    ++ batches_line (count_by is_batch jobs) (all_items jobs)
    ++ totals (all_boards budget grain jobs) (all_solutions budget jobs) (all_items jobs) (all_items jobs)
