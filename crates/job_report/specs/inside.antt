-- For the crate itself. What was looked up, and the lines with it.
use Rattle.std.specs.Prelude.{ℕ, ◌+◌, ◌<◌, ◌≤◌, ◌^◌, Bool, List, [], ◌∷◌, ◌++◌, length, codes, decimal, if◌then◌else◌}
use Rattle.std.specs.declared.cmp.Ordering.{Ordering}
use Rattle.std.specs.BTreeMap.{get}
use Rattle.std.specs.BTreeSet.{contains}
use Rattle.std.specs.Option.{unwrap_or}
use Rattle.std.specs.Ordering.{nat_cmp, ordering_then}
use Rattle.job_text.specs.declared.items.Item.{Item}
use Rattle.job_report.specs.Report.{counted, item_text, line}
use Rattle.job_report.specs.Whole.{found_in}
use Rattle.job_report.specs.declared.answers.Answers.{Answers}
use Rattle.job_report.specs.declared.found.Found.{Found}
use Rattle.job_report.specs.declared.summaries.Counts.{Counts}
use Rattle.sudoku_law.specs.Grid.{Cells}

-- that puzzle n is over; the first line of batch n: how many bytes and items it has; and the line of an item
abbrev pub over_part : ℕ → List ℕ
over_part n = line (codes "puzzle " ++ decimal n ++ codes " over")

-- the first line of a batch
abbrev pub batch_head : ℕ → ℕ → ℕ → List ℕ
batch_head n bytes items = counted (codes "batch " ++ decimal n ++ codes " bytes " ++ decimal bytes ++ codes " items") items

-- the line of an item
abbrev pub item_line : Item → ℕ → List ℕ
item_line item answer = counted (item_text item ++ codes " =") answer

-- the solutions of puzzle n as they are told, and whether it is told to be over
abbrev pub grids_at : Found → ℕ → List Cells
grids_at f n = found_in n f.told

-- the puzzle is over
abbrev pub is_over_at : Found → ℕ → Bool
is_over_at f n = contains nat_cmp f.overs n

-- puzzle n counts as over or not, and how many of its solutions are told if it does not
abbrev pub over_count_at : Found → ℕ → ℕ
over_count_at f n = if is_over_at f n then 1 else 0

-- how many solutions of the puzzle are reported
abbrev pub solution_count_at : Found → ℕ → ℕ
solution_count_at f n = if is_over_at f n then 0 else length (grids_at f n)

-- the sums of these over puzzles, the first of which has the number n
abbrev pub overs_from : Found → ℕ → List Cells → ℕ
overs_from f n [] = 0
overs_from f n (g ∷ rest) = over_count_at f n + overs_from f (n + 1) rest

-- how many solutions are reported from a puzzle on
abbrev pub solutions_from : Found → ℕ → List Cells → ℕ
solutions_from f n [] = 0
solutions_from f n (g ∷ rest) = solution_count_at f n + solutions_from f (n + 1) rest

-- one more job can be counted
pub record HasRoom (counts : Counts) : Type 0 where
  pub puzzles : counts.puzzles < 2 ^ 24
  pub overs : counts.overs < 2 ^ 24
  pub solutions : counts.solutions ≤ 2 ^ 88
  pub batches : counts.batches < 2 ^ 24
  pub items : counts.items ≤ 2 ^ 48

-- items in order: by batch, then by number
abbrev pub by_item : ℕ × ℕ → ℕ × ℕ → Ordering
by_item a b = ordering_then (nat_cmp a.0 b.0) (nat_cmp a.1 b.1)

-- the value of item n of batch b, or 0 if it has no value
abbrev pub value_at : Answers → ℕ → ℕ → ℕ
value_at answers b n = unwrap_or (get by_item answers.held (b, n)) 0

-- the last of a value and those told after it
abbrev pub latest : ℕ → List ℕ → ℕ
latest value [] = value
latest value (next ∷ values) = latest next values

-- a line for each item, with its value, where the first item has the number n
abbrev pub lines_told : Answers → ℕ → ℕ → List Item → List ℕ
lines_told answers b n [] = []
lines_told answers b n (item ∷ items) = item_line item (value_at answers b n) ++ lines_told answers b (n + 1) items

-- the part of batch b with these values, where its common part has `bytes` bytes
abbrev pub batch_told : Answers → ℕ → ℕ → List Item → List ℕ
batch_told answers b bytes items = batch_head b bytes (length items) ++ lines_told answers b 1 items
