-- For the crate itself.
use Rattle.std.specs.Prelude.{ℕ}
use Rattle.ledger_stats.specs.declared.stats.Tally.{Tally}
use Rattle.ledger_stats.specs.declared.stats.Statistic.{Statistic}
use Rattle.ledger_stats.specs.declared.stats.Statistic.TheVariants.{Accepted, Refused, Rejected, Granted, Pushed}

-- how many entries are counted so
abbrev pub told : Tally → Statistic → ℕ
told c Accepted = c.accepted
told c Refused = c.refused
told c Rejected = c.rejected
told c Granted = c.granted
told c Pushed = c.pushed
