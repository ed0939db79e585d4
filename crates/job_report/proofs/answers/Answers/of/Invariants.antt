use Rattle.std.proofs.Common.{◌≡◌, ℕ, drop}
use Rattle.job_report.specs.Whole.{answers_of}
use Rattle.job_report.specs.inside.{latest, value_at}
use Rattle.job_report.proofs.answers.Answers.of.Given as goal

abbrev pub invariant-loop-outcome : goal.invariant-loop-outcome
invariant-loop-outcome l =
    (b n : ℕ) → latest (value_at l.answers b n) (answers_of b n (drop l.outcome-index l.outcomes)) ≡ latest 0 (answers_of b n l.outcomes)
