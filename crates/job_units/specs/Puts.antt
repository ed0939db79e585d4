-- How each unit is put, and how many are of each work type.
use Rattle.std.specs.Prelude.{ℕ, ◌==◌, not, pos, Bool, List, [], ◌∷◌, count_by, Some, None}
use Rattle.adlb_unit.specs.declared.names.Rank.{Rank}
use Rattle.adlb_unit.specs.declared.names.Target.TheVariants.{Any, Only}
use Rattle.bag_ledger.specs.declared.entries.Call.{Call}
use Rattle.bag_ledger.specs.declared.entries.Call.TheVariants.{Put}
use Rattle.sudoku_law.specs.Grid.{Cells}
use Rattle.job_units.specs.declared.puts.Putting.{Putting}
use Rattle.job_units.specs.declared.units.Made.{Made}
use Rattle.job_units.specs.declared.units.Made.TheVariants as made
use Rattle.job_units.specs.Bodies.{board_body, solution_body, job_body, answer_body}

-- how many cells are not blank
abbrev pub filled : Cells → ℕ
filled g = count_by (λ digit. not (digit == 0)) g

-- the rank that has the answers
abbrev pub answer_rank : Rank
answer_rank = record { 0 = 0 }

-- how a unit is put: its work type, priority, target, answer rank and body
abbrev pub put_of : Made → Call
put_of (made.Board b) = Put (record { 0 = 0 }) (pos (filled b.grid)) Any (Some answer_rank) (board_body b)
put_of (made.Solution s) = Put (record { 0 = 1 }) (pos 100) (Only answer_rank) None (solution_body s)
put_of (made.Job j) = Put (record { 0 = 2 }) (pos 50) Any (Some answer_rank) (job_body j)
put_of (made.Answer a) = Put (record { 0 = 3 }) (pos 100) (Only answer_rank) None (answer_body a)

-- the put with these five
abbrev pub call_of : Putting → Call
call_of p = Put p.kind p.prio p.target p.answer p.body

-- the work type
abbrev pub kind_of : Made → ℕ
kind_of (made.Board b) = 0
kind_of (made.Solution s) = 1
kind_of (made.Job j) = 2
kind_of (made.Answer a) = 3

-- the unit is of this work type
abbrev pub is_kind : ℕ → Made → Bool
is_kind kind unit = kind_of unit == kind

-- how many boards, solutions, jobs and answers
abbrev pub counts : List Made → List ℕ
counts units = count_by (is_kind 0) units ∷ count_by (is_kind 1) units ∷ count_by (is_kind 2) units ∷ count_by (is_kind 3) units ∷ []
