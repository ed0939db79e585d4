-- The units that are read back from their bodies.
use Rattle.std.specs.Prelude.{◌<◌, ◌^◌}
use Rattle.sudoku_rules.specs.Sides.{IsSudoku}
use Rattle.job_units.specs.declared.answers.Answer.{Answer}
use Rattle.job_units.specs.declared.boards.Board.{Board}
use Rattle.job_units.specs.declared.jobs.Job.{Job}
use Rattle.job_units.specs.declared.solutions.Solution.{Solution}
use Rattle.job_units.specs.declared.units.Made.{Made}
use Rattle.job_units.specs.declared.units.Made.TheVariants as made

-- the numbers fit their places in the body, and the grid is one of side 4, 9 or 16
pub record IsBoard (b : Board) : Type 0 where
  pub puzzle : b.puzzle < 2 ^ 32
  pub budget : b.budget < 2 ^ 64
  pub grid : IsSudoku b.grid

-- a solution that can be put
pub record IsSolution (s : Solution) : Type 0 where
  pub puzzle : s.puzzle < 2 ^ 32
  pub grid : IsSudoku s.grid

-- a job that can be put
pub record IsJob (j : Job) : Type 0 where
  pub batch : j.batch < 2 ^ 32
  pub number : j.number < 2 ^ 32

-- an answer that can be put
pub record IsAnswer (a : Answer) : Type 0 where
  pub batch : a.batch < 2 ^ 32
  pub number : a.number < 2 ^ 32
  pub value : a.value < 2 ^ 64

-- a unit that can be put
abbrev pub IsUnit : Made → Type 0
IsUnit (made.Board b) = IsBoard b
IsUnit (made.Solution s) = IsSolution s
IsUnit (made.Job j) = IsJob j
IsUnit (made.Answer a) = IsAnswer a
