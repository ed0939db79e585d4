use Rattle.std.proofs.Common.{◌≡◌, ◌||◌, ℕ, drop}
use Rattle.std.specs.BTreeSet.{contains}
use Rattle.std.specs.Ordering.{nat_cmp}
use Rattle.job_report.specs.Whole.{told_over}
use Rattle.job_report.proofs.found.overs_of.Given as goal

abbrev pub invariant-loop-outcome : goal.invariant-loop-outcome
invariant-loop-outcome l = (n : ℕ) →
    (contains nat_cmp l.overs n || told_over n (drop l.outcome-index l.outcomes)) ≡ told_over n l.outcomes
