-- How ledger, programs and report are joined, over the law of what every run of orderly ranks conserves.
use Rattle.std.proofs.Common.{◌≡◌, ◌<◌, true, List, All}
use Rattle.adlb_unit.specs.declared.configs.Config.{Config}
use Rattle.bag_ledger.specs.declared.entries.Entry.{Entry}
use Rattle.bag_ledger.specs.declared.states.UnitPlace.TheVariants.{Spent}
use Rattle.bag_ledger.specs.Bag.{Bag, start}
use Rattle.bag_ledger.specs.Runs.{IsRun}
use Rattle.balance_law.specs.Balanced.{AreOrderly, IsBalanced}
use Rattle.job_text.specs.declared.jobs.Job.{Job}
use Rattle.job_report.specs.declared.outcomes.Outcome.{Outcome}
use Rattle.puzzle_app.specs.declared.outcomes.Settings.{Settings}
use Rattle.job_report.specs.Jobs.{puzzles}
use Rattle.job_report.specs.Whole.{AreWhole}
use Rattle.puzzle_law.specs.Joined.{IsPuzzleRun}
use Rattle.puzzle_law.proofs.Ranks.{run_is_orderly}
use Rattle.puzzle_law.proofs.Whole.{run_is_whole}
use Rattle.sudoku_rules.specs.Sides.{IsSudoku}

-- what is conserved in every legal run of orderly ranks
abbrev Conserves : Type 0
Conserves =
    (config : Config) (ledger : List Entry) (last : Bag) → 0 < config.ranks → IsRun (start config) ledger last → AreOrderly config ledger →
    IsBalanced config ledger last

-- in a run of puzzle programs the outcomes hold what the jobs are to give
pub joined_whole : Conserves →
    (config : Config) (ledger : List Entry) (last : Bag) (settings : Settings) (jobs : List Job) (outcomes : List Outcome) →
    0 < config.ranks → IsRun (start config) ledger last → All IsSudoku (puzzles jobs) →
    IsPuzzleRun config ledger settings jobs outcomes → AreWhole settings.budget settings.grain jobs outcomes
joined_whole conserves config ledger last settings jobs outcomes some legal grids run =
    let balanced : IsBalanced config ledger last =
    conserves config ledger last some legal (run_is_orderly config ledger settings jobs outcomes run some) in
    run_is_whole config ledger last settings jobs outcomes some balanced grids run

-- in a run of puzzle programs each accepted unit was fetched
pub joined_spent : Conserves →
    (config : Config) (ledger : List Entry) (last : Bag) (settings : Settings) (jobs : List Job) (outcomes : List Outcome) →
    0 < config.ranks → IsRun (start config) ledger last → IsPuzzleRun config ledger settings jobs outcomes →
    All (λ u. u.place ≡ Spent) last.units
joined_spent conserves config ledger last settings jobs outcomes some legal run =
    let balanced : IsBalanced config ledger last =
    conserves config ledger last some legal (run_is_orderly config ledger settings jobs outcomes run some) in
    balanced.spent

-- in a run of puzzle programs each common part was freed
pub joined_freed : Conserves →
    (config : Config) (ledger : List Entry) (last : Bag) (settings : Settings) (jobs : List Job) (outcomes : List Outcome) →
    0 < config.ranks → IsRun (start config) ledger last → IsPuzzleRun config ledger settings jobs outcomes →
    All (λ p. (p.closed ≡ true) × (p.freed ≡ true)) last.parts
joined_freed conserves config ledger last settings jobs outcomes some legal run =
    let balanced : IsBalanced config ledger last =
    conserves config ledger last some legal (run_is_orderly config ledger settings jobs outcomes run some) in
    balanced.freed
