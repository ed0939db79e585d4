-- What follows of a run over puzzles and batches for its report.
use Rattle.std.proofs.Common.{◌≡◌, ◌<◌, ◌≤◌, ◌^◌, ◌+◌, ◌*◌, ℕ, suc, List, [], ◌∷◌, length, Some, Result, Ok, Err, IfOk, All, refl, sym, ◌∙◌}
use Rattle.std.proofs.Common.{subst, arith, slice_get, slice_index}
use Rattle.std.proofs.lemmas.Option.{slice_get_within}
use Rattle.std.proofs.lemmas.List.Elements.{All-cons, All-head, All-nil, All-tail}
use Rattle.std.proofs.lemmas.List.Sums.{sum_by-cons}
use Rattle.run_command.specs.Reports.{Reported}
use Rattle.adlb_unit.specs.declared.names.Rank.{Rank}
use Rattle.balance_law.proofs.Whole.{balanced}
use Rattle.job_report.specs.Jobs.{puzzles}
use Rattle.job_report.specs.Whole.{AreWhole, made_in}
use Rattle.job_report.specs.declared.outcomes.Outcome.{Outcome}
use Rattle.job_text.specs.Jobs.{HasGrid}
use Rattle.job_text.specs.declared.jobs.Job.{Job}
use Rattle.job_text.specs.declared.jobs.Job.TheVariants.{Batch, Puzzle}
use Rattle.puzzle_app.specs.declared.outcomes.Settings.{Settings}
use Rattle.puzzle_law.proofs.Joining.{joined_freed, joined_spent, joined_whole}
use Rattle.puzzle_law.specs.Joined.{IsPuzzleRun, IsRankRun}
use Rattle.run_command.specs.Kept.{HasRun, IsWorkedUp}
use Rattle.sudoku_rules.specs.Sides.{IsSudoku}
use Rattle.solve_command.specs.Puzzles.{ArePrograms, FollowsPuzzles}

-- what holds holds at `Ok`
pub on_ok_always : {X E : Type 0} (P : Type 0) → P → (r : Result X E) → IfOk r (λ x. P)
on_ok_always P is (Ok x) = is
on_ok_always P is (Err e) = tt

-- numbers that are each below a bound sum up to less than as many times it
few_sum : (k : ℕ) (os : List Outcome) → ((n : ℕ) (o : Outcome) → slice_get os n ≡ Some o → slice_index o.made k < 2 ^ 113) →
    made_in k os ≤ length os * 2 ^ 113
few_sum k [] few = omega arith
few_sum k (o ∷ os) few =
    let sum : made_in k (o ∷ os) ≡ slice_index o.made k + made_in k os = sum_by-cons (λ (p : Outcome). slice_index p.made k) o os in
    omega (arith, sum, few 0 o refl, few_sum k os (λ n p at. few (suc n) p at))

-- where each puzzle of the jobs is a grid, all of them are grids
all_grids : (jobs : List Job) → All HasGrid jobs → All IsSudoku (puzzles jobs)
unfolding puzzles
all_grids [] grids = All-nil IsSudoku
all_grids (Puzzle g ∷ jobs) grids =
    All-cons IsSudoku g (puzzles jobs) (All-head HasGrid (Puzzle g) jobs grids) (all_grids jobs (All-tail HasGrid (Puzzle g) jobs grids))
all_grids (Batch common items ∷ jobs) grids = all_grids jobs (All-tail HasGrid (Batch common items) jobs grids)

module _ (settings : Settings) (jobs : List Job) (r : Reported Outcome)
    (run : HasRun (λ ranks. ArePrograms settings) FollowsPuzzles jobs r) where
  rank_run : (rank : Rank) → rank.0 < r.config.ranks → IsRankRun r.config r.ledger settings jobs r.outcomes rank
  rank_run rank below =
      let e = run.each rank below in
      let is = run.are rank.0 e.program e.program_is in
      record {
        program = e.program;
        said = e.said;
        outcome = e.outcome;
        settings_are = is.0;
        jobs_are = is.1;
        calls_are = e.calls_are;
        follows = e.followed;
        there = e.outcome_is;
      }

  puzzle_run : IsPuzzleRun r.config r.ledger settings jobs r.outcomes
  puzzle_run = record { each = rank_run; all = run.outcomes }

  some_ranks : 0 < r.config.ranks
  some_ranks = omega (arith, r.config.ranks_within.0)

  -- all work of the run is done
  pub run_worked_up : IsWorkedUp r
  run_worked_up = λ last legal. (
    joined_spent balanced r.config r.ledger last settings jobs r.outcomes some_ranks legal puzzle_run,
    joined_freed balanced r.config r.ledger last settings jobs r.outcomes some_ranks legal puzzle_run,
  )

  -- the outcomes hold what the jobs are to give
  pub run_whole : All HasGrid jobs → AreWhole settings.budget settings.grain jobs r.outcomes
  run_whole grids =
      joined_whole balanced r.config r.ledger run.last settings jobs r.outcomes some_ranks run.legal (all_grids jobs grids) puzzle_run

  -- the ranks made fewer units together than a number of 128 bits counts
  pub few_made : (k : ℕ) → made_in k r.outcomes < 2 ^ 128
  few_made k =
      let all : length r.outcomes ≡ r.config.ranks = run.outcomes in
      let each : (n : ℕ) (o : Outcome) → slice_get r.outcomes n ≡ Some o → slice_index o.made k < 2 ^ 113 = λ n o at.
      let e = run.each (record { 0 = n }) (omega (arith, all, slice_get_within r.outcomes n o at)) in
      let is : Some e.outcome ≡ Some o = sym e.outcome_is ∙ at in
      let same : e.outcome ≡ o = cc in
      subst (λ (x : Outcome). slice_index x.made k < 2 ^ 113) same (e.followed.few k) in
      omega (arith, few_sum k r.outcomes each, all, r.config.ranks_within.1)
