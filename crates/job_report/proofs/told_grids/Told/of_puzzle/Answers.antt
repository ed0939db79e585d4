use Rattle.std.proofs.Common.{◌∙◌, ap, leb, ltb, rules, subst, sym}
use Rattle.std.specs.List.Sorted.{IsNonDecreasingBy}
use Rattle.std.proofs.lemmas.List.Sorted.{IsNonDecreasingBy-drop, IsPartitionedBy-leb, IsPartitionedBy-ltb, IsPartitionPoint-from_clause}
use Rattle.job_report.specs.Whole.{found_in}
use Rattle.job_report.proofs.Kept.{rest_from, stand_in}
use Rattle.job_report.proofs.told_grids.Told.of_puzzle.Goals as goal

pub returns : goal.returns
returns c =
    let from = c.partition_point-from.result in
    let n = c.args.number in
    let items = c.self.inside.list.items in
    let rest_is = rest_from from items c.deref-2.result.now c.deref-2.ensures.value in
    let first_rises = subst (IsNonDecreasingBy (λ s. s.0)) (sym c.deref.ensures.value) c.self.invariant in
    let rest_rises = subst (IsNonDecreasingBy (λ s. s.0)) (sym rest_is) (IsNonDecreasingBy-drop (λ s. s.0) from items c.self.invariant) in
    let at_first = IsPartitionPoint-from_clause (λ s. ltb s.0 n) _ _ c.partition_point-from.ensures.partitioned
    (IsPartitionedBy-ltb (λ s. s.0) _ n first_rises) (λ a r q k. search rules) in
    let at_rest = IsPartitionPoint-from_clause (λ s. leb s.0 n) _ _ c.partition_point-count.ensures.partitioned
    (IsPartitionedBy-leb (λ s. s.0) _ n rest_rises) (λ a r q k. search rules) in
    stand_in n from c.partition_point-count.result items _ _ c.deref.ensures.value rest_is c.partition_point-from.ensures.bound
    c.partition_point-count.ensures.bound at_first at_rest
    ∙ ap (found_in n) c.self.view_is
