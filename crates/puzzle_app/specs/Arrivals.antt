-- What comes to a rank, and what its work makes.
use Rattle.std.specs.Prelude.{ℕ, ◌==◌, ◌&&◌, Bool, false, List, [], ◌∷◌, Option}
use Rattle.std.specs.List.{flat_map}
use Rattle.std.specs.Option.{unwrap_or}
use Rattle.sudoku_law.specs.Grid.{Cells}
use Rattle.job_units.specs.declared.units.Made.{Made}
use Rattle.job_units.specs.declared.units.Made.TheVariants as made
use Rattle.job_units.specs.Works.{answer_of, made_by, walk_of}
use Rattle.work_law.specs.Work.{Arrival as Came}

-- a unit that came to a rank: fetched, or made by it and taken by no server; and the common bytes over which a job is worked
abbrev pub Arrival : Type 0
Arrival = Came Made

-- common bytes are of use for a job alone
abbrev pub common_for : Made → List ℕ → List ℕ
common_for (made.Job j) common = common
common_for unit common = []

-- over these common bytes
abbrev pub arrival : List ℕ → Made → Arrival
arrival common unit = record { unit = unit; common = common_for unit common }

-- the common bytes of a batch, if one is going on
abbrev pub bytes_on : Option (List ℕ) → List ℕ
bytes_on on = unwrap_or on []

-- what the work on a unit makes: on a board its boards and solutions, on a job its answer; the others stay with the rank
abbrev pub makes_of : ℕ → List ℕ → Made → List Made
makes_of grain common (made.Board b) = made_by grain b
makes_of grain common (made.Job j) = made.Answer (answer_of common j) ∷ []
makes_of grain common _ = []

-- what the work on an arrival makes
abbrev pub makes : ℕ → Arrival → List Made
makes grain a = makes_of grain a.common a.unit

-- the solutions that stay, by puzzle, and the answers, by batch and item
abbrev pub solution_in : Made → List (ℕ × Cells)
solution_in (made.Solution s) = (s.puzzle, s.grid) ∷ []
solution_in _ = []

-- the solutions that came
abbrev pub solutions_in : List Arrival → List (ℕ × Cells)
solutions_in came = flat_map (λ (a : Arrival). solution_in a.unit) came

-- the answer of a unit, if it is one
abbrev pub answer_in : Made → List (ℕ × ℕ × ℕ)
answer_in (made.Answer a) = (a.batch, a.number, a.value) ∷ []
answer_in _ = []

-- the answers that came
abbrev pub answers_in : List Arrival → List (ℕ × ℕ × ℕ)
answers_in came = flat_map (λ (a : Arrival). answer_in a.unit) came

-- the unit is a board of puzzle n, and the work on it meets an over node
abbrev pub over_in : ℕ → ℕ → Made → Bool
over_in grain n (made.Board b) = (b.puzzle == n) && (walk_of grain b).over
over_in grain n _ = false

-- the puzzle of the arrival is over
abbrev pub is_over_at : ℕ → ℕ → Arrival → Bool
is_over_at grain n a = over_in grain n a.unit
