-- The outcomes of a run are whole.
use Rattle.std.proofs.Common.{◌≡◌, ◌<◌, ◌+◌, ℕ, List, [], ◌∷◌, None, refl, arith, count_by, sum_by, All}
use Rattle.std.specs.List.{flat_map}
use Rattle.std.proofs.lemmas.List.Sums.{sum_by-append, sum_by-cons}
use Rattle.adlb_unit.specs.declared.configs.Config.{Config}
use Rattle.bag_ledger.specs.declared.entries.Entry.{Entry}
use Rattle.bag_ledger.specs.Bag.{Bag}
use Rattle.balance_law.specs.Balanced.{IsBalanced}
use Rattle.sudoku_rules.specs.Sides.{IsSudoku}
use Rattle.job_report.specs.Jobs.{all_boards, all_items, all_solutions, puzzles}
use Rattle.job_report.specs.Whole.{AreWhole, made_in}
use Rattle.job_report.specs.declared.outcomes.Outcome.{Outcome}
use Rattle.job_text.specs.declared.jobs.Job.{Job}
use Rattle.job_units.specs.Puts.{is_kind}
use Rattle.puzzle_app.specs.Arrivals.{Arrival, makes}
use Rattle.puzzle_app.specs.Tasks.{Task, all_units, tasks_from}
use Rattle.puzzle_app.specs.declared.outcomes.Settings.{Settings}
use Rattle.puzzle_law.specs.Joined.{IsPuzzleRun}
use Rattle.puzzle_law.proofs.First.{all_roots, boards_weigh, jobs_begun, tasks_counted}
use Rattle.puzzle_law.proofs.Held.{all_held}
use Rattle.puzzle_law.proofs.Pieces.{waits}
use Rattle.puzzle_law.proofs.Ranks.{AreTogether, made_of, run_together}
use Rattle.puzzle_law.proofs.Sums.{one_if, sum_flat, sum_one_more}
use Rattle.puzzle_law.proofs.Trees.{answers_law, any_puzzle, found, found_law, handed_law, handed_out, no_jobs_made, no_weight}
use Rattle.puzzle_law.proofs.Weights.{job_weight, just, weight}

-- units that are made in tasks and by work
made_counted : (kind grain : ℕ) (first : List Task) (came : List Arrival) →
    count_by (is_kind kind) (made_of grain first came)
    ≡ count_by (is_kind kind) (all_units first) + sum_by (λ a. count_by (is_kind kind) (makes grain a)) came
made_counted kind grain first came =
    omega (
      arith,
      sum_by-append (one_if (is_kind kind)) (all_units first) (flat_map (makes grain) came),
      sum_flat (one_if (is_kind kind)) (makes grain) came,
    )

-- no job is made by work
no_jobs_by_work : (grain : ℕ) (came : List Arrival) → sum_by (λ a. count_by (is_kind 2) (makes grain a)) came ≡ 0
no_jobs_by_work grain [] = refl
no_jobs_by_work grain (a ∷ came) =
    omega (
      arith,
      sum_by-cons (λ x. count_by (is_kind 2) (makes grain x)) a came,
      no_jobs_made grain a.common a.unit,
      no_jobs_by_work grain came,
    )

-- The totals.

module _ (budget grain : ℕ) (jobs : List Job) (outcomes : List Outcome) (are : AreTogether budget grain jobs outcomes) where
  abbrev tasks : List Task
  tasks = tasks_from budget 1 1 jobs

  abbrev first : List Arrival
  first = waits None tasks

  boards_total : made_in 0 outcomes ≡ all_boards budget grain jobs
  boards_total =
      let left : sum_by (λ a. count_by (is_kind 0) (makes grain a)) are.came
      ≡ sum_by (weight any_puzzle (handed_out grain) no_weight) first =
      just grain first are.came are.same (weight any_puzzle (handed_out grain) no_weight) (λ a. count_by (is_kind 0) (makes grain a))
      (λ a. handed_law grain a.common a.unit) in
      omega (
        arith,
        are.boards_made,
        made_counted 0 grain tasks are.came,
        tasks_counted 0 budget 1 1 jobs,
        left,
        boards_weigh any_puzzle (handed_out grain) no_weight budget 1 1 jobs,
        all_roots (handed_out grain) budget 1 (puzzles jobs),
        sum_one_more (λ g. handed_out grain budget g) (puzzles jobs),
      )

  solutions_total : made_in 1 outcomes ≡ all_solutions budget jobs
  solutions_total =
      let left : sum_by (λ a. count_by (is_kind 1) (makes grain a)) are.came ≡ sum_by (weight any_puzzle found no_weight) first =
      just grain first are.came are.same (weight any_puzzle found no_weight) (λ a. count_by (is_kind 1) (makes grain a))
      (λ a. found_law grain a.common a.unit) in
      omega (
        arith,
        are.solutions_made,
        made_counted 1 grain tasks are.came,
        tasks_counted 1 budget 1 1 jobs,
        left,
        boards_weigh any_puzzle found no_weight budget 1 1 jobs,
        all_roots found budget 1 (puzzles jobs),
      )

  jobs_total : made_in 2 outcomes ≡ all_items jobs
  jobs_total =
      omega (
        arith,
        are.jobs_made,
        made_counted 2 grain tasks are.came,
        tasks_counted 2 budget 1 1 jobs,
        no_jobs_by_work grain are.came,
      )

  answers_total : made_in 3 outcomes ≡ all_items jobs
  answers_total =
      let left : sum_by (λ a. count_by (is_kind 3) (makes grain a)) are.came ≡ sum_by job_weight first =
      just grain first are.came are.same job_weight (λ a. count_by (is_kind 3) (makes grain a)) (λ a. answers_law grain a.common a.unit) in
      omega (
        arith,
        are.answers_made,
        made_counted 3 grain tasks are.came,
        tasks_counted 3 budget 1 1 jobs,
        left,
        jobs_begun budget 1 1 jobs,
      )

-- The whole.

-- where each accepted unit was fetched, and each rank ran its program to its end
pub run_is_whole : (config : Config) (ledger : List Entry) (last : Bag) (settings : Settings) (jobs : List Job) (outcomes : List Outcome) →
    0 < config.ranks → IsBalanced config ledger last → All IsSudoku (puzzles jobs) →
    IsPuzzleRun config ledger settings jobs outcomes → AreWhole settings.budget settings.grain jobs outcomes
run_is_whole config ledger last settings jobs outcomes some balanced grids run =
    let are : AreTogether settings.budget settings.grain jobs outcomes =
    run_together config ledger settings jobs outcomes run some last balanced in
    record {
      held = all_held settings.budget settings.grain jobs outcomes are grids;
      boards_made = boards_total settings.budget settings.grain jobs outcomes are;
      solutions_made = solutions_total settings.budget settings.grain jobs outcomes are;
      jobs_made = jobs_total settings.budget settings.grain jobs outcomes are;
      answers_made = answers_total settings.budget settings.grain jobs outcomes are;
    }
