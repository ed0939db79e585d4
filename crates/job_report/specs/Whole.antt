-- What outcomes together hold.
use Rattle.std.specs.Prelude.{◌≡◌, ℕ, ◌+◌, ◌==◌, Bool, ◌&&◌, List, [], ◌∷◌, sum_by, slice_index, IsPermutation, if◌then◌else◌}
use Rattle.std.specs.List.{flat_map, list_any}
use Rattle.sudoku_law.specs.Grid.{Cells}
use Rattle.sudoku_law.specs.Tree.{solutions, is_over}
use Rattle.sudoku_rules.specs.Sides.{IsSudoku, tree_of}
use Rattle.job_text.specs.declared.items.Item.{Item}
use Rattle.job_text.specs.declared.jobs.Job.{Job}
use Rattle.job_text.specs.declared.jobs.Job.TheVariants.{Puzzle, Batch}
use Rattle.job_units.specs.Items.{answer_to}
use Rattle.job_report.specs.Jobs.{all_boards, all_solutions, all_items}
use Rattle.job_report.specs.declared.outcomes.Outcome.{Outcome}

-- the solutions of puzzle n among these, and in all outcomes
unfoldable pub found_in : ℕ → List (ℕ × Cells) → List Cells
found_in n [] = []
found_in n (s ∷ found) = if s.0 == n then s.1 ∷ found_in n found else found_in n found

-- the solutions of a puzzle in all outcomes
abbrev pub found : ℕ → List Outcome → List Cells
found n outcomes = flat_map (λ (o : Outcome). found_in n o.solutions.items) outcomes

-- some outcome tells that puzzle n is over
abbrev pub told_over : ℕ → List Outcome → Bool
told_over n outcomes = list_any (λ (o : Outcome). list_any (λ x. x == n) o.overs.items) outcomes

-- the values of item n of batch b among these answers, and in all outcomes
unfoldable pub answers_in : ℕ → ℕ → List (ℕ × ℕ × ℕ) → List ℕ
answers_in b n [] = []
answers_in b n (a ∷ answers) = if (a.0 == b) && (a.1 == n) then a.2 ∷ answers_in b n answers else answers_in b n answers

-- the answers to an item in all outcomes
abbrev pub answers_of : ℕ → ℕ → List Outcome → List ℕ
answers_of b n outcomes = flat_map (λ (o : Outcome). answers_in b n o.answers.items) outcomes

-- how many units of the k-th type all made
abbrev pub made_in : ℕ → List Outcome → ℕ
made_in k outcomes = sum_by (λ (o : Outcome). slice_index o.made k) outcomes

-- the outcomes together hold the solution nodes of puzzle n, each once, and tell whether it is over
pub record IsHeld (budget n : ℕ) (g : Cells) (outcomes : List Outcome) : Type 0 where
  pub grid : IsSudoku g
  pub nodes : IsPermutation (solutions (tree_of budget g)) (found n outcomes)
  pub over : told_over n outcomes ≡ is_over (tree_of budget g)

-- they hold the answer to each item of batch b once, and no other value of it; the first of these items has the number n
abbrev pub AreAnswered : ℕ → ℕ → List ℕ → List Item → List Outcome → Type 0
AreAnswered b n common [] outcomes = Unit {0}
AreAnswered b n common (item ∷ items) outcomes =
    (answers_of b n outcomes ≡ answer_to item common ∷ []) × AreAnswered b (n + 1) common items outcomes

-- they hold what each of these jobs is to give, where the next puzzle has the number p and the next batch the number b
abbrev pub AreHeld : ℕ → ℕ → ℕ → List Job → List Outcome → Type 0
AreHeld budget p b [] outcomes = Unit {0}
AreHeld budget p b (Puzzle g ∷ jobs) outcomes = IsHeld budget p g outcomes × AreHeld budget (p + 1) b jobs outcomes
AreHeld budget p b (Batch common items ∷ jobs) outcomes = AreAnswered b 1 common items outcomes × AreHeld budget p (b + 1) jobs outcomes

-- the outcomes together hold what these jobs are to give, and count what is made of them. That each of these counts is below 2^128 is
-- a condition of `render` by itself
pub record AreWhole (budget grain : ℕ) (jobs : List Job) (outcomes : List Outcome) : Type 0 where
  pub held : AreHeld budget 1 1 jobs outcomes
  pub boards_made : made_in 0 outcomes ≡ all_boards budget grain jobs
  pub solutions_made : made_in 1 outcomes ≡ all_solutions budget jobs
  pub jobs_made : made_in 2 outcomes ≡ all_items jobs
  pub answers_made : made_in 3 outcomes ≡ all_items jobs
