use Rattle.std.proofs.Common.{◌≡◌, replicate}
use Rattle.bag_ledger.specs.Bag.{fresh}
use Rattle.bag_tables.proofs.ranks.fresh_ranks.Given as goal

abbrev pub invariant-loop-place : goal.invariant-loop-place
invariant-loop-place l = l.ranks.items ≡ replicate l._place fresh
