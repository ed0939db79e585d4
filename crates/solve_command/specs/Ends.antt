-- How `solve` and `drill` end.
use Rattle.std.specs.Prelude.{◌≡◌, ◌≤◌, ◌^◌, ℕ, Bool, List, Option, Some}
use Rattle.run_command.specs.Reports.{Reported}
use Rattle.adlb_unit.specs.declared.configs.Config.{Config}
use Rattle.job_report.specs.declared.outcomes.Outcome.{Outcome}
use Rattle.job_text.specs.declared.faults.LineWhy.{LineWhy}
use Rattle.job_text.specs.declared.jobs.Job.{Job}
use Rattle.job_text.specs.Jobs.{input_refused}
use Rattle.made_jobs.specs.Made.{made_text}
use Rattle.puzzle_app.specs.declared.outcomes.Settings.{Settings}
use Rattle.puzzle_app.specs.Follows.{Follows}
use Rattle.run_command.specs.Ends.{EndsBy, ReadsNothing, Scene, scene}
use Rattle.run_command.specs.Kept.{IsKept, IsRunWith, Kept}
use Rattle.run_command.specs.declared.faults.Fault.{Fault}
use Rattle.solve_command.specs.Puzzles.{AreJobs, ArePrograms}
use Rattle.solve_report.specs.Told.{IsReported, IsSummed}
use Rattle.spending_law.specs.Most.{most_calls}

-- The ends of a run of this number of ranks over puzzles and batches, with these settings, of which this is written. Its stamps run out
-- only if all ranks together may begin 2^34 calls over its jobs.
abbrev pub EndsWith : Settings → ℕ → (List Job → Reported Outcome → List ℕ → Type 0) → Scene → Scene → Option (Fault LineWhy) →
    Option (Kept Outcome) → Type 0
EndsWith settings ranks tells before after fault kept =
    EndsBy AreJobs (λ bytes line why. input_refused bytes ≡ Some (line, why))
    (IsKept (λ n. ArePrograms settings) (λ program rank. Follows program)) (λ jobs k told. tells jobs k.report told)
    (λ jobs. 2 ^ 34 ≤ most_calls settings.budget settings.grain ranks jobs) before after fault kept

-- the ends of `solve`: the report is told, and after it this tail; what is kept has such numbers
pub record Solves (settings : Settings) (tail : Reported Outcome → List ℕ) (ranks : ℕ) (IsOf : Config → Type 0) (inline : Bool)
    (before after : Scene) (fault : Option (Fault LineWhy)) (kept : Option (Kept Outcome)) : Type 0 where
  pub ends : EndsWith settings ranks (IsReported settings tail) before after fault kept
  pub run : IsRunWith IsOf inline before after kept

-- the ends of `drill`: those of a run over the made text, as if a source of which no read fails had it and nothing else. It leaves the
-- real source as it was
pub record Drills (count seed : ℕ) (settings : Settings) (ranks : ℕ) (IsOf : Config → Type 0) (inline : Bool) (before after : Scene)
    (fault : Option (Fault LineWhy)) (kept : Option (Kept Outcome)) : Type 0 where
  pub rest : List ℕ
  pub ends : EndsWith settings ranks (IsSummed settings count seed)
      (scene (Some (made_text count seed)) 0 before.taken before.writes before.flushed before.refused before.started)
      (scene (Some rest) 0 after.taken after.writes after.flushed after.refused after.started) fault kept
  pub run : IsRunWith IsOf inline before after kept
  pub unread : ReadsNothing before after
