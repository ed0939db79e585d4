use Rattle.std.proofs.Common.{◌≡◌, Some, slice_get, ap, ◌∙◌, subst, sum_by}
use Rattle.adlb.proofs.works.run_on.Goals as goal

pub total-requires-clause-few : goal.total-requires-clause-few
total-requires-clause-few g c = λ k n at. c.in-Ok.ensures.few tt k n (subst (λ xs. slice_get xs k ≡ Some n) c.as_slice.ensures.value at)

pub returns-in-Ok-clause-total : goal.returns-in-Ok-clause-total
returns-in-Ok-clause-total g c =
    c.total.ensures ∙ ap (λ xs. sum_by (λ n. n) xs) c.as_slice.ensures.value ∙ c.in-Ok.ensures.whole tt
