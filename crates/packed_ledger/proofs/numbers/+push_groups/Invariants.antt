use Rattle.packed_ledger.proofs.numbers.+push_groups.Given as goal

abbrev pub decreases-push_groups : goal.decreases-push_groups
decreases-push_groups l = l.most
