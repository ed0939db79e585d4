-- The jobs of an input, or its first line that is refused.
use Rattle.std.specs.Prelude.{◌≤◌, ⊤, ℕ, ◌+◌, Bool, true, false, List, [], ◌∷◌, Option, Some, None, length, map}
use Rattle.sudoku_rules.specs.Sides.{IsSudoku}
use Rattle.job_text.specs.declared.faults.LineWhy.{LineWhy}
use Rattle.job_text.specs.declared.faults.LineWhy.TheVariants as why
use Rattle.job_text.specs.declared.items.Item.{Item}
use Rattle.job_text.specs.declared.jobs.Job.{Job}
use Rattle.job_text.specs.declared.jobs.Job.TheVariants.{Puzzle, Batch}
use Rattle.job_text.specs.Lines.{lines}
use Rattle.job_text.specs.Kinds.{Kind, skipped, puzzle, batch, item, bad, kind_of, line_limit}

-- the items that lines add to a batch before them: those up to the next puzzle or batch
unfoldable pub items_of : List Kind → List Item
items_of [] = []
items_of (puzzle grid ∷ kinds) = []
items_of (batch bytes ∷ kinds) = []
items_of (item (Some i) ∷ kinds) = i ∷ items_of kinds
items_of (_ ∷ kinds) = items_of kinds

-- the jobs of lines: each puzzle, and each batch with the items after it
unfoldable pub jobs_of : List Kind → List Job
jobs_of [] = []
jobs_of (puzzle grid ∷ kinds) = Puzzle grid ∷ jobs_of kinds
jobs_of (batch bytes ∷ kinds) = Batch bytes (items_of kinds) ∷ jobs_of kinds
jobs_of (_ ∷ kinds) = jobs_of kinds

-- why a line is refused, if it is, where a batch is going on (on) or not
abbrev pub fault_of : Bool → Kind → Option LineWhy
fault_of on (bad reason) = Some reason
fault_of false (item i) = Some why.Item
fault_of true (item None) = Some why.Number
fault_of on _ = None

-- a batch is going on after a line, where one was (on) or was not going on before it
abbrev pub goes_on : Bool → Kind → Bool
goes_on on (puzzle grid) = false
goes_on on (batch bytes) = true
goes_on on _ = on

-- the bytes of a batch are at most those of a line
abbrev pub HasFewBytes : Job → Type 0
HasFewBytes (Puzzle grid) = ⊤
HasFewBytes (Batch bytes items) = length bytes ≤ line_limit

-- a puzzle is a grid of side 4, 9 or 16
abbrev pub HasGrid : Job → Type 0
HasGrid (Puzzle grid) = IsSudoku grid
HasGrid (Batch bytes items) = ⊤

-- the first of these lines that is refused, and why; the first of them has the number n
abbrev pub or_later : Option LineWhy → ℕ → Option (ℕ × LineWhy) → Option (ℕ × LineWhy)
or_later (Some reason) n later = Some (n, reason)
or_later None n later = later

-- the first line that is refused, with its reason
unfoldable pub first_refused : Bool → ℕ → List Kind → Option (ℕ × LineWhy)
first_refused on n [] = None
first_refused on n (kind ∷ kinds) = or_later (fault_of on kind) n (first_refused (goes_on on kind) (n + 1) kinds)

-- the kinds of an input's lines, its jobs, and its first refused line, lines counted from 1
abbrev pub kinds : List ℕ → List Kind
kinds bytes = map kind_of (lines bytes)

-- the jobs of an input
abbrev pub input_jobs : List ℕ → List Job
input_jobs bytes = jobs_of (kinds bytes)

-- the first line of an input that is refused
abbrev pub input_refused : List ℕ → Option (ℕ × LineWhy)
input_refused bytes = first_refused false 1 (kinds bytes)
