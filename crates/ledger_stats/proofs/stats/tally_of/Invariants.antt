use Rattle.std.proofs.Common.{◌≡◌, ◌+◌, count_by, length}
use Rattle.ledger_stats.specs.inside.{told}
use Rattle.ledger_stats.specs.Stats.{counts}
use Rattle.ledger_stats.specs.declared.stats.Statistic.{Statistic}
use Rattle.ledger_stats.proofs.stats.tally_of.Given as goal

abbrev pub invariant-loop : goal.invariant-loop
invariant-loop l = record {
  read : l.counter + length l.entries ≡ length l.fn.ledger;
  counted : (s : Statistic) → told l.tally s + count_by (counts s) l.entries ≡ count_by (counts s) l.fn.ledger;
}
