use Rattle.std.proofs.Common.{◌≡◌, ◌+◌, drop}
use Rattle.job_report.specs.Whole.{made_in}
use Rattle.job_report.proofs.totals.made_of.Given as goal

abbrev pub invariant-loop-outcome : goal.invariant-loop-outcome
invariant-loop-outcome l = l.total + made_in l.kind (drop l.outcome-index l.outcomes) ≡ made_in l.kind l.outcomes
