-- The unit of a body, and of a fetch.
use Rattle.std.specs.Prelude.{ℕ, ◌-◌, ◌==◌, ◌&&◌, Bool, true, false, is_none, List, length, map, take, drop, slice_index, Option, Some}
use Rattle.std.specs.Prelude.{None, option_map, if◌then◌else◌}
use Rattle.std.specs.Int.{from_be_bytes, w32, w64}
use Rattle.std.specs.Str.{bytes_eq}
use Rattle.adlb_unit.specs.declared.names.Rank.{Rank}
use Rattle.adlb_unit.specs.declared.notes.UnitNote.{UnitNote}
use Rattle.sudoku_rules.specs.Reading.{digit_of}
use Rattle.sudoku_rules.specs.Sides.{is_sudoku}
use Rattle.job_text.specs.declared.items.Item.{Item}
use Rattle.job_text.specs.declared.items.Item.TheVariants.{Count, Sum, Max}
use Rattle.job_units.specs.declared.answers.Answer.{Answer}
use Rattle.job_units.specs.declared.boards.Board.{Board}
use Rattle.job_units.specs.declared.jobs.Job.{Job}
use Rattle.job_units.specs.declared.solutions.Solution.{Solution}
use Rattle.job_units.specs.declared.units.Made.{Made}
use Rattle.job_units.specs.declared.units.Made.TheVariants as made
use Rattle.job_units.specs.Bodies.{board_body, solution_body, job_body, answer_body}

-- What is at the places of a body.

-- a board by the places of a body
abbrev pub board_in : List ℕ → Board
board_in body = record {
  puzzle = from_be_bytes w32 (take 4 body);
  budget = from_be_bytes w64 (take 8 (drop 4 body));
  grid = map digit_of (drop 8 (drop 4 body));
}

-- a solution by the places of a body
abbrev pub solution_in : List ℕ → Solution
solution_in body = record { puzzle = from_be_bytes w32 (take 4 body); grid = map digit_of (drop 4 body) }

-- the item of its bytes
abbrev pub item_in : List ℕ → Item
item_in bytes =
    if slice_index bytes 0 == 1 then Count (slice_index bytes 1) (slice_index bytes 2)
    else if slice_index bytes 0 == 2 then Sum
    else Max

-- a job by the places of a body
abbrev pub job_in : List ℕ → Job
job_in body = record {
  batch = from_be_bytes w32 (take 4 body);
  number = from_be_bytes w32 (take 4 (drop 4 body));
  item = item_in (drop 4 (drop 4 body));
}

-- an answer by the places of a body
abbrev pub answer_in : List ℕ → Answer
answer_in body = record {
  batch = from_be_bytes w32 (take 4 body);
  number = from_be_bytes w32 (take 4 (drop 4 body));
  value = from_be_bytes w64 (drop 4 (drop 4 body));
}

-- The unit of a body.

-- what is in a body, if it fits and this is the very body that is written of it
abbrev pub if_its_body : (X : Type 0) → (X → Bool) → (X → List ℕ) → List ℕ → X → Option X
if_its_body X fits write body x = if fits x && bytes_eq body (write x) then Some x else None

-- the board, the solution, the job or the answer that has this body, if any
unfoldable pub board_of_body : List ℕ → Option Board
board_of_body body = if_its_body Board (λ b. is_sudoku b.grid) board_body body (board_in body)

-- the solution of a body
unfoldable pub solution_of_body : List ℕ → Option Solution
solution_of_body body = if_its_body Solution (λ s. is_sudoku s.grid) solution_body body (solution_in body)

-- the job of a body
unfoldable pub job_of_body : List ℕ → Option Job
job_of_body body = if_its_body Job (λ j. true) job_body body (job_in body)

-- the answer of a body
unfoldable pub answer_of_body : List ℕ → Option Answer
answer_of_body body = if_its_body Answer (λ a. true) answer_body body (answer_in body)

-- the answer rank is the one that has the answers
abbrev pub is_answer_rank : Option Rank → Bool
is_answer_rank None = false
is_answer_rank (Some rank) = rank.0 == 0

-- the unit of this work type, answer rank and body, if it has the form of one
abbrev pub unit_of : ℕ → Option Rank → List ℕ → Option Made
unit_of kind answer body =
    if (kind == 0) && is_answer_rank answer then option_map made.Board (board_of_body body)
    else if (kind == 1) && is_none answer then option_map made.Solution (solution_of_body body)
    else if (kind == 2) && is_answer_rank answer then option_map made.Job (job_of_body body)
    else if (kind == 3) && is_none answer then option_map made.Answer (answer_of_body body)
    else None

-- The unit of a fetch.

-- a unit's own bytes, which are the last of its fetch, and the bytes of the common part before them
abbrev pub own_bytes : ℕ → List ℕ → List ℕ
own_bytes long bytes = drop (length bytes - long) bytes

-- the common bytes of a fetch, before its own
abbrev pub common_bytes : ℕ → List ℕ → List ℕ
common_bytes long bytes = take (length bytes - long) bytes

-- the unit of this note whose fetch gave these bytes, if it has the form of one
abbrev pub fetched : UnitNote → List ℕ → Option Made
fetched note bytes = unit_of note.kind.0 note.answer (own_bytes note.length bytes)
