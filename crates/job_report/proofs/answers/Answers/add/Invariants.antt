use Rattle.std.proofs.Common.{◌≡◌, ℕ, drop}
use Rattle.job_report.specs.Whole.{answers_in}
use Rattle.job_report.specs.inside.{latest, value_at}
use Rattle.job_report.proofs.answers.Answers.add.Given as goal

abbrev pub invariant-loop-answer : goal.invariant-loop-answer
invariant-loop-answer l =
    (b n : ℕ) → latest (value_at l.self b n) (answers_in b n (drop l.answer-index l.answers)) ≡ latest (value_at l.fn.self b n)
    (answers_in b n l.answers)
