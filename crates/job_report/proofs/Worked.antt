-- The definitions on worked jobs, by computation.
use Rattle.std.proofs.Common.{◌≡◌, ℕ, ◌+◌, ◌==◌, ◌||◌, false, List, [], ◌∷◌, ◌++◌, codes, slice_index, IsPermutation, refl, sym, ap, subst}
use Rattle.std.specs.Fmt.{digits}
use Rattle.std.specs.List.{list_any}
use Rattle.std.proofs.lemmas.List.Sorted.{IsPermutation-refl}
use Rattle.sudoku_law.specs.Grid.{Cells, any_below, count_up, fewest_below}
use Rattle.sudoku_law.specs.Tree.{branches, at_cell, grown}
use Rattle.sudoku_rules.specs.Sides.{box_for}
use Rattle.sudoku_rules.proofs.Sides.{test_sudoku}
use Rattle.job_text.specs.declared.items.Item.TheVariants.{Count, Sum, Max}
use Rattle.job_text.specs.declared.jobs.Job.{Job}
use Rattle.job_text.specs.declared.jobs.Job.TheVariants.{Puzzle, Batch}
use Rattle.job_units.specs.Items.{answer_to}
use Rattle.job_report.specs.Jobs.{puzzles}
use Rattle.job_report.specs.Report.{IsReport, line, totals}
use Rattle.job_report.specs.Summary.{summary}
use Rattle.job_report.specs.Whole.{AreWhole, IsHeld, answers_in, answers_of, found_in}
use Rattle.job_report.specs.declared.outcomes.Outcome.{Outcome}

-- no byte is from 5 to 4, and of no bytes all answers are 0
pub none_answered :
    answer_to (Count 5 4) (codes "abcabc") ∷ answer_to (Count 0 255) [] ∷ answer_to Sum [] ∷ answer_to Max [] ∷ []
    ≡ 0 ∷ 0 ∷ 0 ∷ 0 ∷ []
none_answered = refl

-- a puzzle with two cells that have two candidates each
abbrev two : Cells
two = 0 ∷ 2 ∷ 0 ∷ 4 ∷ 0 ∷ 4 ∷ 0 ∷ 2 ∷ 2 ∷ 1 ∷ 4 ∷ 3 ∷ 4 ∷ 3 ∷ 2 ∷ 1 ∷ []

-- three batches, the second of which is empty, and a puzzle between them
abbrev mixed : List Job
mixed = Batch (codes "abcabc") (Count 97 98 ∷ Sum ∷ Max ∷ []) ∷ Puzzle two ∷ Batch [] [] ∷ Batch (codes "ab!") (Sum ∷ []) ∷ []

-- the parts from each of them on
abbrev from_fourth : List ℕ
from_fourth = line (codes "batch 3 bytes 3 items 1") ++ line (codes "sum = 228")

abbrev from_third : List ℕ
from_third = line (codes "batch 2 bytes 0 items 0") ++ from_fourth

abbrev from_second : List ℕ
from_second = line (codes "puzzle 1 over") ++ from_third

abbrev from_first : List ℕ
from_first =
    line (codes "batch 1 bytes 6 items 3") ++ line (codes "count 97 98 = 4") ++ line (codes "sum = 588") ++ line (codes "max = 99")
    ++ from_second

-- their report, with a budget of 1 for each puzzle
pub mixed_reported : IsReport 1 1 mixed (from_first ++ totals 1 0 4 4)
unfolding digits puzzles box_for any_below count_up fewest_below branches at_cell grown
mixed_reported = record {
  parts = from_first;
  job_parts = (from_second, (line (codes "puzzle 1 over"), from_third, refl, (from_fourth, ([], refl, refl), refl), refl), refl);
  whole = refl;
}

-- their summary with this budget, and with one for which the puzzle is not over
pub mixed_summed : summary 1 1 mixed ≡ line (codes "puzzles 1 over 1 solutions 0") ++ line (codes "batches 3 items 4") ++ totals 1 0 4 4
unfolding digits puzzles box_for any_below count_up fewest_below branches at_cell grown
mixed_summed = refl

-- the summary of the mixed jobs, in full
pub mixed_summed_in_full :
    summary 8 1 mixed ≡ line (codes "puzzles 1 over 0 solutions 2") ++ line (codes "batches 3 items 4") ++ totals 3 2 4 4
unfolding digits puzzles box_for any_below count_up fewest_below branches at_cell grown
mixed_summed_in_full = refl

-- answers in some order
abbrev all_told : List (ℕ × ℕ × ℕ)
all_told = (3, 1, 228) ∷ (1, 3, 99) ∷ (1, 1, 4) ∷ (1, 2, 588) ∷ []

-- an outcome that has these answers, the puzzle that is over, and these counts is whole
pub mixed_whole : (o : Outcome) → o.solutions.items ≡ [] → o.overs.items ≡ 1 ∷ [] → o.answers.items ≡ all_told →
    o.made ≡ 1 ∷ 0 ∷ 4 ∷ 4 ∷ [] → AreWhole 1 1 mixed (o ∷ [])
unfolding answers_in found_in puzzles box_for any_below count_up fewest_below branches at_cell grown
mixed_whole o solved overs told made = record {
  held = ((answered 1 1, (answered 1 2, (answered 1 3, tt))), (held, (tt, ((answered 3 1, tt), tt))));
  boards_made = ap (λ l. 0 + slice_index l 0) made;
  solutions_made = ap (λ l. 0 + slice_index l 1) made;
  jobs_made = ap (λ l. 0 + slice_index l 2) made;
  answers_made = ap (λ l. 0 + slice_index l 3) made;
}
  where
    answered : (b n : ℕ) → answers_of b n (o ∷ []) ≡ answers_in b n all_told ++ []
    answered b n = ap (λ l. answers_in b n l ++ []) told

    held : IsHeld 1 1 two (o ∷ [])
    held = record {
      grid = test_sudoku two refl;
      nodes = subst (λ l. IsPermutation [] (found_in 1 l ++ [])) (sym solved) (IsPermutation-refl []);
      over = ap (λ l. list_any (λ x. x == 1) l || false) overs;
    }
