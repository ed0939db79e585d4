-- What follows from how a run over puzzles and batches ended, where no read failed.
use Rattle.std.proofs.Common.{◌≡◌, ◌⊎◌, ◌<◌, ◌≤◌, ◌+◌, ◌^◌, ℕ, List, length, Option, Some, None, sym, ap, ◌∙◌, arith}
use Rattle.adlb_io.specs.Outside.{Rises}
use Rattle.run_command.specs.Reports.{Reported}
use Rattle.job_report.specs.declared.outcomes.Outcome.{Outcome}
use Rattle.job_text.specs.declared.faults.LineWhy.{LineWhy}
use Rattle.job_text.specs.declared.jobs.Job.{Job}
use Rattle.job_text.specs.Jobs.{input_jobs, input_refused}
use Rattle.puzzle_app.specs.declared.outcomes.Settings.{Settings}
use Rattle.run_command.specs.Ends.{IsFine, Scene, input_limit}
use Rattle.run_command.specs.Kept.{IsKept, Kept}
use Rattle.run_command.specs.declared.faults.Fault.{Fault}
use Rattle.run_command.specs.declared.faults.Fault.TheVariants.{Input, Memory, TooLarge}
use Rattle.run_command.proofs.Laws as ends
use Rattle.solve_command.specs.Ends.{EndsWith}
use Rattle.solve_command.specs.Puzzles.{AreJobs, ArePrograms, FollowsPuzzles, RefusesLine}
use Rattle.spending_law.specs.Most.{most_calls}

-- something is not nothing
not_both : {X : Type 0} (o : Option X) (x : X) → o ≡ Some x → o ≡ None → ⊥
not_both None x some none = absurd (cc)
not_both (Some y) x some none = absurd (cc)

-- the fault of a refused line
abbrev fault_with : Option (ℕ × LineWhy) → Option (Fault LineWhy)
fault_with None = None
fault_with (Some x) = Some (Input x.0 x.1)

-- all ranks together may begin 2^34 calls for the jobs
abbrev IsLong : Settings → ℕ → List Job → Type 0
IsLong settings ranks jobs = 2 ^ 34 ≤ most_calls settings.budget settings.grain ranks jobs

-- if they may not, the stamps do not run out
pub short_fine : (settings : Settings) (ranks : ℕ) (tells : List Job → Reported Outcome → List ℕ → Type 0) (before after : Scene)
    (fault : Option (Fault LineWhy)) (kept : Option (Kept Outcome)) (bytes : List ℕ) →
    EndsWith settings ranks tells before after fault kept → before.left ≡ Some bytes →
    most_calls settings.budget settings.grain ranks (input_jobs bytes) < 2 ^ 34 → IsFine fault → (fault ≡ None) ⊎ (fault ≡ Some Memory)
short_fine settings ranks tells before after fault kept bytes ended told few fine =
    ends.short_fine AreJobs RefusesLine (IsKept (λ n. ArePrograms settings) FollowsPuzzles)
    (λ jobs k told. tells jobs k.report told) (IsLong settings ranks) before after kept bytes told
    (λ jobs are long. omega (arith, long, ap (λ j. most_calls settings.budget settings.grain ranks j) are.1, few)) fault ended fine

module _ (settings : Settings) (ranks : ℕ) (tells : List Job → Reported Outcome → List ℕ → Type 0) (before after : Scene)
    (fault : Option (Fault LineWhy)) (kept : Option (Kept Outcome))
    (bytes : List ℕ) (ended : EndsWith settings ranks tells before after fault kept) (told : before.left ≡ Some bytes)
    (no_read : Rises before.reads after.reads → ⊥)
  where
    -- an accepted input is answered
    pub accepted_fine : length bytes ≤ input_limit → input_refused bytes ≡ None → (Rises before.writes after.writes → ⊥) →
        (Rises before.refused after.refused → ⊥) → IsFine fault
    accepted_fine short fine no_write no_refusal =
        ends.asked_fine AreJobs RefusesLine (IsKept (λ n. ArePrograms settings) FollowsPuzzles)
        (λ jobs k told. tells jobs k.report told) (IsLong settings ranks) before after kept bytes told no_read
        (λ line why is. not_both (input_refused bytes) (line, why) is fine) short no_write no_refusal fault ended

    -- a refused one is refused at its line
    pub refused_at_line : (line : ℕ) (why : LineWhy) → length bytes ≤ input_limit → input_refused bytes ≡ Some (line, why) →
        (fault ≡ Some (Input line why)) ⊎ (fault ≡ Some Memory)
    refused_at_line line why short is =
        ends.refused_there AreJobs RefusesLine (IsKept (λ n. ArePrograms settings) FollowsPuzzles)
        (λ jobs k told. tells jobs k.report told) (IsLong settings ranks) before after kept bytes told no_read
        (λ jobs are. not_both (input_refused bytes) (line, why) is are.0) short line why (λ l w at. ap fault_with (sym at ∙ is)) fault ended

    -- one that is too long is told as such
    pub overlong_told : input_limit < length bytes → (fault ≡ Some (TooLarge (input_limit + 1))) ⊎ (fault ≡ Some Memory)
    overlong_told long =
        ends.overlong_told AreJobs RefusesLine (IsKept (λ n. ArePrograms settings) FollowsPuzzles)
        (λ jobs k told. tells jobs k.report told) (IsLong settings ranks) before after kept bytes told no_read long fault ended
