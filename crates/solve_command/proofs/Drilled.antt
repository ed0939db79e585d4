-- What follows from how `drill` ended: no read of the made text fails.
use Rattle.std.proofs.Common.{◌≡◌, ◌⊎◌, ◌<◌, ◌≤◌, ◌^◌, ℕ, Bool, List, length, Option, Some, None, arith, inl, inr, refl}
use Rattle.adlb_io.specs.Outside.{Rises}
use Rattle.adlb_unit.specs.declared.configs.Config.{Config}
use Rattle.job_report.specs.declared.outcomes.Outcome.{Outcome}
use Rattle.job_text.specs.declared.jobs.Job.{Job}
use Rattle.job_text.specs.Jobs.{input_jobs, input_refused}
use Rattle.job_text.specs.declared.faults.LineWhy.{LineWhy}
use Rattle.made_jobs.specs.Made.{made_text}
use Rattle.puzzle_app.specs.declared.outcomes.Settings.{Settings}
use Rattle.run_command.specs.Reports.{Reported}
use Rattle.run_command.specs.Ends.{IsFine, Scene, input_limit, scene}
use Rattle.run_command.specs.declared.faults.Fault.{Fault}
use Rattle.run_command.specs.declared.faults.Fault.TheVariants.{Memory}
use Rattle.run_command.specs.Kept.{Kept}
use Rattle.solve_command.proofs.Ended.{accepted_fine, short_fine}
use Rattle.solve_command.specs.Ends.{Drills, EndsWith}
use Rattle.solve_report.specs.Told.{IsSummed}
use Rattle.spending_law.specs.Most.{most_calls}

-- no read failed
no_more : Rises 0 0 → ⊥
no_more (inl less) = omega (arith, less)
no_more (inr last) = omega (arith, last)

-- where such a text is all that the source has: one that is short enough, and of which no line is refused, is answered
text_fine : (text rest : List ℕ) (settings : Settings) (ranks : ℕ) (tells : List Job → Reported Outcome → List ℕ → Type 0)
    (before after : Scene) (fault : Option (Fault LineWhy)) (kept : Option (Kept Outcome)) →
    EndsWith settings ranks tells (scene (Some text) 0 before.taken before.writes before.flushed before.refused before.started)
    (scene (Some rest) 0 after.taken after.writes after.flushed after.refused after.started) fault kept →
    length text ≤ input_limit → input_refused text ≡ None → (Rises before.writes after.writes → ⊥) →
    (Rises before.refused after.refused → ⊥) → IsFine fault
text_fine text rest settings ranks tells before after fault kept ends short fine no_write no_refusal =
    accepted_fine settings ranks tells (scene (Some text) 0 before.taken before.writes before.flushed before.refused before.started)
    (scene (Some rest) 0 after.taken after.writes after.flushed after.refused after.started) fault kept text ends refl no_more short fine
    no_write no_refusal

-- its stamps do not run out if its jobs are few
text_short : (text rest : List ℕ) (settings : Settings) (ranks : ℕ) (tells : List Job → Reported Outcome → List ℕ → Type 0)
    (before after : Scene) (fault : Option (Fault LineWhy)) (kept : Option (Kept Outcome)) →
    EndsWith settings ranks tells (scene (Some text) 0 before.taken before.writes before.flushed before.refused before.started)
    (scene (Some rest) 0 after.taken after.writes after.flushed after.refused after.started) fault kept →
    most_calls settings.budget settings.grain ranks (input_jobs text) < 2 ^ 34 → IsFine fault → (fault ≡ None) ⊎ (fault ≡ Some Memory)
text_short text rest settings ranks tells before after fault kept ends few fine =
    short_fine settings ranks tells (scene (Some text) 0 before.taken before.writes before.flushed before.refused before.started)
    (scene (Some rest) 0 after.taken after.writes after.flushed after.refused after.started) fault kept text ends refl few fine

-- a made text is such a text
pub drilled_fine : (count seed : ℕ) (settings : Settings) (ranks : ℕ) (IsOf : Config → Type 0) (inline : Bool) (before after : Scene)
    (fault : Option (Fault LineWhy)) (kept : Option (Kept Outcome)) → Drills count seed settings ranks IsOf inline before after fault kept
    → length (made_text count seed) ≤ input_limit →
    input_refused (made_text count seed) ≡ None → (Rises before.writes after.writes → ⊥) → (Rises before.refused after.refused → ⊥) →
    IsFine fault
drilled_fine count seed settings ranks IsOf inline before after fault kept drills short fine no_write no_refusal =
    text_fine (made_text count seed) drills.rest settings ranks (IsSummed settings count seed) before after fault kept drills.ends short fine
    no_write no_refusal

pub drilled_short : (count seed : ℕ) (settings : Settings) (ranks : ℕ) (IsOf : Config → Type 0) (inline : Bool) (before after : Scene)
    (fault : Option (Fault LineWhy)) (kept : Option (Kept Outcome)) → Drills count seed settings ranks IsOf inline before after fault kept
    → most_calls settings.budget settings.grain ranks (input_jobs (made_text count seed)) < 2 ^ 34 → IsFine fault
    → (fault ≡ None) ⊎ (fault ≡ Some Memory)
drilled_short count seed settings ranks IsOf inline before after fault kept drills few fine =
    text_short (made_text count seed) drills.rest settings ranks (IsSummed settings count seed) before after fault kept drills.ends few fine
