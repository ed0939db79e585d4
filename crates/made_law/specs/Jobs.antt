-- The jobs of a made text.
use Rattle.std.specs.Prelude.{ℕ, zero, suc, ◌%◌, ◌==◌, List, [], ◌∷◌, ◌++◌, map, if◌then◌else◌}
use Rattle.rand_pcg.specs.Lcg.{Lcg}
use Rattle.sudoku_rules.specs.Reading.{digit_of}
use Rattle.job_text.specs.declared.items.Item.{Item}
use Rattle.job_text.specs.declared.items.Item.TheVariants.{Count, Sum, Max}
use Rattle.job_text.specs.declared.jobs.Job.{Job}
use Rattle.job_text.specs.declared.jobs.Job.TheVariants.{Puzzle, Batch}
use Rattle.made_jobs.specs.Made.{made, puzzle}

-- the items of each batch: the count of the digits from 1 to 5, the sum and the greatest byte
abbrev pub made_items : List Item
made_items = Count 49 53 ∷ Sum ∷ Max ∷ []

-- the jobs of the puzzle of this number, from 1: the grid of its signs, and after each eighth a batch of the signs
abbrev pub puzzle_jobs : ℕ → List ℕ → List Job
puzzle_jobs number signs = Puzzle (map digit_of signs) ∷ (if number % 8 == 0 then Batch signs made_items ∷ [] else [])

-- the jobs of this many puzzles
unfoldable pub made_jobs : ℕ → Lcg → List Job
made_jobs zero generator = []
made_jobs (suc count) generator = made_jobs count generator ++ puzzle_jobs (suc count) (puzzle (made count generator).1).0
