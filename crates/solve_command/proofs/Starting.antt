-- The ends of a run for which an allocation failed before anything was done.
use Rattle.std.proofs.Common.{◌≡◌, ◌≤◌, ◌^◌, ℕ, Bool, List, Some, None}
use Rattle.run_command.specs.Reports.{Reported}
use Rattle.adlb_unit.specs.declared.configs.Config.{Config}
use Rattle.job_report.specs.declared.outcomes.Outcome.{Outcome}
use Rattle.made_jobs.specs.Made.{made_text}
use Rattle.puzzle_app.specs.declared.outcomes.Settings.{Settings}
use Rattle.run_command.specs.Ends.{ReadsNothing, Scene, StartsNone, scene}
use Rattle.run_command.specs.Kept.{IsKept, IsRunWith}
use Rattle.run_command.specs.declared.faults.Fault.TheVariants.{Memory}
use Rattle.run_command.proofs.Ending.{ends_early}
use Rattle.solve_command.specs.Ends.{Drills, Solves}
use Rattle.solve_command.specs.Puzzles.{AreJobs, ArePrograms, FollowsPuzzles, RefusesLine}
use Rattle.solve_report.specs.Told.{IsReported, IsSummed}
use Rattle.spending_law.specs.Most.{most_calls}

module _ (settings : Settings) (ranks : ℕ) (IsOf : Config → Type 0) (inline : Bool) (before after : Scene)
    (same : after.taken ≡ before.taken) (none : StartsNone before after)
  where
    none_run : IsRunWith {O = Outcome} IsOf inline before after None
    none_run = record { numbers = tt; threaded = λ e. tt; untouched = λ e. none }

    -- a `solve` that fails before its run ends as memory that ran out
    pub solved_early : (tail : Reported Outcome → List ℕ) → Solves settings tail ranks IsOf inline before after (Some Memory) None
    solved_early tail = record {
      ends = ends_early AreJobs RefusesLine (IsKept (λ n. ArePrograms settings) FollowsPuzzles)
          (λ jobs k told. IsReported settings tail jobs k.report told)
          (λ jobs. 2 ^ 34 ≤ most_calls settings.budget settings.grain ranks jobs) before after Memory tt same;
      run = none_run;
    }

    -- a `drill` that fails before its run ends as memory that ran out
    pub drilled_early : (count seed : ℕ) → ReadsNothing before after
        → Drills count seed settings ranks IsOf inline before after (Some Memory) None
    drilled_early count seed unread = record {
      rest = made_text count seed;
      ends = ends_early AreJobs RefusesLine (IsKept (λ n. ArePrograms settings) FollowsPuzzles)
          (λ jobs k told. IsSummed settings count seed jobs k.report told)
          (λ jobs. 2 ^ 34 ≤ most_calls settings.budget settings.grain ranks jobs)
          (scene (Some (made_text count seed)) 0 before.taken before.writes before.flushed before.refused before.started)
          (scene (Some (made_text count seed)) 0 after.taken after.writes after.flushed after.refused after.started) Memory tt same;
      run = none_run;
      unread = unread;
    }
