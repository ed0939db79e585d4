use Rattle.std.proofs.Common.{◌∙◌, ap, rules}
use Rattle.std.proofs.lemmas.List.Sorted.{IsNonDecreasingBy-from_sort_by_key, answers_always, length_permutation}
use Rattle.job_report.specs.Pairs.{pairs}
use Rattle.job_report.specs.Whole.{found_in}
use Rattle.job_report.proofs.Kept.{found_sorted, found_told, on_ok, outcomes_added}
use Rattle.job_report.proofs.told_grids.Told.of.Goals as goal

pub invariant_of-result : goal.invariant_of-result
invariant_of-result c =
    IsNonDecreasingBy-from_sort_by_key (λ s. s.0) _ (on_ok _ _ c.in_ok-or_no_memory.ensures c.sort_by_key.ensures.sorted)
    (λ a r q k. search rules)

pub returns : goal.returns
returns c = λ n.
    found_sorted n c.loop-outcome.list.items c.sort_by_key.new.self.items (length_permutation _ _ c.sort_by_key.ensures.permutation)
    (c.sort_by_key.ensures.stable (λ s. s.0) (answers_always _ _ _ (λ f a r g h. search rules)))
    ∙ ap (found_in n) (outcomes_added c.loop-outcome.outcome-index c.args.outcomes.now (pairs c.loop-outcome.list.items) _
    c.loop-outcome-test.false c.loop-outcome.invariant)
    ∙ found_told n c.args.outcomes.now
