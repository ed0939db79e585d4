use Rattle.std.proofs.Common.{◌≡◌, ◌++◌, map}
use Rattle.std.specs.Vec.Iter.{into_iter_items}
use Rattle.merge_history.proofs.fronts.fronts_of.Given as goal

abbrev pub invariant-loop-entries : goal.invariant-loop-entries
invariant-loop-entries l = l.fronts.items ++ map (λ k. k.entries) (into_iter_items l.entries-iterator)
    ≡ map (λ k. k.entries) l.fn.kept.items
