-- The bodies of units: numbers have their most significant byte first.
use Rattle.std.specs.Prelude.{ℕ, List, [], ◌∷◌, ◌++◌}
use Rattle.std.specs.Int.{to_be_bytes, w32, w64}
use Rattle.sudoku_law.specs.Text.{text_of}
use Rattle.job_text.specs.declared.items.Item.{Item}
use Rattle.job_text.specs.declared.items.Item.TheVariants.{Count, Sum, Max}
use Rattle.job_units.specs.declared.answers.Answer.{Answer}
use Rattle.job_units.specs.declared.boards.Board.{Board}
use Rattle.job_units.specs.declared.jobs.Job.{Job}
use Rattle.job_units.specs.declared.solutions.Solution.{Solution}
use Rattle.job_units.specs.declared.units.Made.{Made}
use Rattle.job_units.specs.declared.units.Made.TheVariants as made

-- a board: the number of the puzzle, the budget, and the text of the grid: 28, 93 or 268 bytes
unfoldable pub board_body : Board → List ℕ
board_body b = to_be_bytes w32 b.puzzle ++ to_be_bytes w64 b.budget ++ text_of b.grid

-- a solution: the number of the puzzle and the text of the grid: 20, 85 or 260 bytes
unfoldable pub solution_body : Solution → List ℕ
solution_body s = to_be_bytes w32 s.puzzle ++ text_of s.grid

-- an item: its kind, and the least and the greatest byte that it counts, or zeros
abbrev pub item_bytes : Item → List ℕ
item_bytes (Count lo hi) = 1 ∷ lo ∷ hi ∷ []
item_bytes Sum = 2 ∷ 0 ∷ 0 ∷ []
item_bytes Max = 3 ∷ 0 ∷ 0 ∷ []

-- a job: the number of the batch, the number of the item, and the item: 11 bytes
unfoldable pub job_body : Job → List ℕ
job_body j = to_be_bytes w32 j.batch ++ to_be_bytes w32 j.number ++ item_bytes j.item

-- an answer: the number of the batch, the number of the item, and the value: 16 bytes
unfoldable pub answer_body : Answer → List ℕ
answer_body a = to_be_bytes w32 a.batch ++ to_be_bytes w32 a.number ++ to_be_bytes w64 a.value

-- the body of a unit
abbrev pub body_of : Made → List ℕ
body_of (made.Board b) = board_body b
body_of (made.Solution s) = solution_body s
body_of (made.Job j) = job_body j
body_of (made.Answer a) = answer_body a
