use Rattle.std.proofs.Common.{◌≡◌, ◌==◌, ◌||◌, ℕ, drop}
use Rattle.std.specs.BTreeSet.{contains}
use Rattle.std.specs.List.{list_any}
use Rattle.std.specs.Ordering.{nat_cmp}
use Rattle.job_report.proofs.found.add_overs.Given as goal

abbrev pub invariant-loop-number : goal.invariant-loop-number
invariant-loop-number l = (n : ℕ) →
    (contains nat_cmp l.overs n || list_any (λ x. x == n) (drop l.number-index l.numbers))
    ≡ (contains nat_cmp l.fn.overs n || list_any (λ x. x == n) l.numbers)
