use Rattle.std.proofs.Common.{length, map, sum_by}
use Rattle.merge_history.specs.Merging.{AllClimb}
use Rattle.merge_history.proofs.Going.{IsGoing}
use Rattle.merge_history.proofs.merging.merged_entries.Given as goal

abbrev pub invariant-loop-at : goal.invariant-loop-at
invariant-loop-at l =
    AllClimb (map (λ k. k.entries) l.fn.kept.items) → IsGoing (map (λ k. k.entries) l.fn.kept.items) l.fronts.items l.ledger

abbrev pub decreases-loop-at : goal.decreases-loop-at
decreases-loop-at l = sum_by length l.fronts.items
