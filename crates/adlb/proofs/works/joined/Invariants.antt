use Rattle.std.proofs.Common.{◌≡◌, Bool, count_by, sum_by}
use Rattle.adlb.proofs.works.joined.Given as goal

abbrev pub invariant-loop-list : goal.invariant-loop-list
invariant-loop-list g l = (test : _ → Bool) → count_by test l.all.items ≡ sum_by (λ v. count_by test v.items) l.yielded
