-- Jobs have one report.
use Rattle.std.proofs.Common.{◌≡◌, ℕ, ◌+◌, Bool, true, false, List, [], ◌∷◌, ◌++◌, sym, ap, ◌∙◌, MatchBool}
use Rattle.sudoku_law.specs.Grid.{Cells}
use Rattle.sudoku_law.specs.Solutions.{IsSolutionList}
use Rattle.sudoku_law.specs.Tree.{is_over}
use Rattle.sudoku_law.proofs.Unique.{solutions_unique}
use Rattle.sudoku_rules.specs.Sides.{box_side, tree_of}
use Rattle.job_text.specs.declared.jobs.Job.{Job}
use Rattle.job_text.specs.declared.jobs.Job.TheVariants.{Puzzle, Batch}
use Rattle.job_report.specs.Jobs.{all_boards, all_items, all_solutions}
use Rattle.job_report.specs.Report.{AreParts, IsPuzzlePart, IsReport, batch_part, solutions_part, totals}
use Rattle.job_report.specs.inside.{over_part}

-- a puzzle has one part
pub puzzle_part_unique : (budget n : ℕ) (g : Cells) (one other : List ℕ) → IsPuzzlePart budget n g one → IsPuzzlePart budget n g other →
    one ≡ other
puzzle_part_unique budget n g one other = by_over (is_over (tree_of budget g))
  where
    IsListed : List ℕ → Type 0
    IsListed part = (xs : List Cells) × IsSolutionList (box_side g) g xs × (part ≡ solutions_part n xs)

    by_over : (over : Bool) → MatchBool over (one ≡ over_part n) (IsListed one) → MatchBool over (other ≡ over_part n) (IsListed other) →
        one ≡ other
    by_over true p q = p ∙ sym q
    by_over false (xs, first, p) (ys, second, q) = p ∙ ap (solutions_part n) (solutions_unique (box_side g) g xs ys first second) ∙ sym q

-- jobs have one row of parts
pub parts_unique : (budget p b : ℕ) (jobs : List Job) (one other : List ℕ) → AreParts budget p b jobs one →
    AreParts budget p b jobs other → one ≡ other
parts_unique budget p b [] one other none nothing = none ∙ sym nothing
parts_unique budget p b (Puzzle g ∷ jobs) one other (part, rest, is, are, e) (part', rest', is', are', e') =
    e
    ∙ ap (λ x. x ++ rest) (puzzle_part_unique budget p g part part' is is')
    ∙ ap (λ x. part' ++ x) (parts_unique budget (p + 1) b jobs rest rest' are are')
    ∙ sym e'
parts_unique budget p b (Batch common items ∷ jobs) one other (rest, are, e) (rest', are', e') =
    e ∙ ap (λ x. batch_part b common items ++ x) (parts_unique budget p (b + 1) jobs rest rest' are are') ∙ sym e'

-- jobs have one report
pub report_unique : (budget grain : ℕ) (jobs : List Job) (one other : List ℕ) → IsReport budget grain jobs one →
    IsReport budget grain jobs other → one ≡ other
report_unique budget grain jobs one other first second =
    let all : List ℕ = totals (all_boards budget grain jobs) (all_solutions budget jobs) (all_items jobs) (all_items jobs) in
    first.whole ∙ ap (λ t. t ++ all) (parts_unique budget 1 1 jobs first.parts second.parts first.job_parts second.job_parts)
    ∙ sym second.whole
