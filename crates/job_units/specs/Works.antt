-- What the work on a board and on a job makes.
use Rattle.std.specs.Prelude.{ℕ, List, ◌++◌, map}
use Rattle.sudoku_law.specs.Grid.{Cells}
use Rattle.sudoku_law.specs.Tree.{Met, walk}
use Rattle.sudoku_rules.specs.Sides.{tree_of}
use Rattle.job_units.specs.declared.answers.Answer.{Answer}
use Rattle.job_units.specs.declared.boards.Board.{Board}
use Rattle.job_units.specs.declared.jobs.Job.{Job}
use Rattle.job_units.specs.declared.units.Made.{Made}
use Rattle.job_units.specs.declared.units.Made.TheVariants as made
use Rattle.job_units.specs.Items.{answer_to}

-- what the work on a board meets
abbrev pub walk_of : ℕ → Board → Met
walk_of grain b = walk grain (tree_of b.budget b.grid)

-- a board of the puzzle, by its budget and its grid
abbrev pub child_of : ℕ → ℕ × Cells → Made
child_of puzzle c = made.Board (record { puzzle = puzzle; budget = c.0; grid = c.1 })

-- a solution of the puzzle
abbrev pub solution_at : ℕ → Cells → Made
solution_at puzzle g = made.Solution (record { puzzle = puzzle; grid = g })

-- what the work on a board makes: the boards that it hands out, in the order of the tree, and then its solution nodes
abbrev pub made_by : ℕ → Board → List Made
made_by grain b = map (child_of b.puzzle) (walk_of grain b).children ++ map (solution_at b.puzzle) (walk_of grain b).solutions

-- the answer of a job over these common bytes
abbrev pub answer_of : List ℕ → Job → Answer
answer_of common j = record { batch = j.batch; number = j.number; value = answer_to j.item common }
