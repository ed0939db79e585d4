-- The report of the jobs of an input.
use Rattle.std.specs.Prelude.{◌≡◌, ℕ, ◌+◌, List, [], ◌∷◌, ◌++◌, length, codes, decimal, MatchBool}
use Rattle.sudoku_law.specs.Grid.{Cells}
use Rattle.sudoku_law.specs.Solutions.{IsSolutionList}
use Rattle.sudoku_law.specs.Text.{text_of}
use Rattle.sudoku_law.specs.Tree.{is_over}
use Rattle.sudoku_rules.specs.Sides.{box_side, tree_of}
use Rattle.job_text.specs.declared.items.Item.{Item}
use Rattle.job_text.specs.declared.items.Item.TheVariants.{Count, Sum, Max}
use Rattle.job_text.specs.declared.jobs.Job.{Job}
use Rattle.job_text.specs.declared.jobs.Job.TheVariants.{Puzzle, Batch}
use Rattle.job_units.specs.Items.{answer_to}
use Rattle.job_report.specs.Jobs.{all_boards, all_solutions, all_items}

-- a text with a line feed
abbrev pub line : List ℕ → List ℕ
line text = text ++ 10 ∷ []

-- a name, a blank and a number
abbrev pub counted : List ℕ → ℕ → List ℕ
counted name n = line (name ++ codes " " ++ decimal n)

-- a line for each grid
abbrev pub grid_lines : List Cells → List ℕ
grid_lines [] = []
grid_lines (s ∷ rest) = line (text_of s) ++ grid_lines rest

-- the solutions of puzzle n
abbrev pub solutions_part : ℕ → List Cells → List ℕ
solutions_part n xs = counted (codes "puzzle " ++ decimal n ++ codes " solutions") (length xs) ++ grid_lines xs

-- the part of puzzle n: all its solutions in text order, or that it is over if some node of its tree is
abbrev pub IsPuzzlePart : ℕ → ℕ → Cells → List ℕ → Type 0
IsPuzzlePart budget n g part =
    MatchBool (is_over (tree_of budget g)) (part ≡ line (codes "puzzle " ++ decimal n ++ codes " over"))
    ((xs : List Cells) × IsSolutionList (box_side g) g xs × (part ≡ solutions_part n xs))

-- an item as it was asked
abbrev pub item_text : Item → List ℕ
item_text (Count lo hi) = codes "count " ++ decimal lo ++ codes " " ++ decimal hi
item_text Sum = codes "sum"
item_text Max = codes "max"

-- a line for each item, with the answer to it
abbrev pub item_lines : List ℕ → List Item → List ℕ
item_lines common [] = []
item_lines common (item ∷ items) = counted (item_text item ++ codes " =") (answer_to item common) ++ item_lines common items

-- the part of batch n: how many bytes and items it has, and a line for each item
abbrev pub batch_part : ℕ → List ℕ → List Item → List ℕ
batch_part n common items =
    counted (codes "batch " ++ decimal n ++ codes " bytes " ++ decimal (length common) ++ codes " items") (length items)
    ++ item_lines common items

-- the parts of the jobs in input order, one after the other, where the next puzzle has the number p and the next batch the
-- number b
abbrev pub AreParts : ℕ → ℕ → ℕ → List Job → List ℕ → Type 0
AreParts budget p b [] text = text ≡ []
AreParts budget p b (Puzzle g ∷ jobs) text =
    (part : List ℕ) × (rest : List ℕ) × IsPuzzlePart budget p g part × AreParts budget (p + 1) b jobs rest × (text ≡ part ++ rest)
AreParts budget p b (Batch common items ∷ jobs) text =
    (rest : List ℕ) × AreParts budget p (b + 1) jobs rest × (text ≡ batch_part b common items ++ rest)

-- how many boards, solutions, jobs and answers were made
abbrev pub totals : ℕ → ℕ → ℕ → ℕ → List ℕ
totals boards solved jobs answers =
    line (codes "totals") ++ counted (codes "board") boards ++ counted (codes "solution") solved ++ counted (codes "job") jobs
    ++ counted (codes "answer") answers

-- the report: the part of each job in input order, puzzles and batches each numbered from 1, and the totals
pub record IsReport (budget grain : ℕ) (jobs : List Job) (bytes : List ℕ) : Type 0 where
  pub parts : List ℕ
  pub job_parts : AreParts budget 1 1 jobs parts
  pub whole : bytes ≡ parts ++ totals (all_boards budget grain jobs) (all_solutions budget jobs) (all_items jobs) (all_items jobs)
