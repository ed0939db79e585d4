use Rattle.std.proofs.Common.{arith}
use Rattle.ledger_stats.specs.declared.stats.Statistic.TheVariants.{Accepted, Refused, Rejected, Granted, Pushed}
use Rattle.ledger_stats.proofs.stats.Tally.add.Goals as goal

pub overflow_add-self : goal.overflow_add-self
overflow_add-self c = let fits = c.requires Accepted in let is = c.count.ensures in omega (arith, fits, is)

pub overflow_add-self-2 : goal.overflow_add-self-2
overflow_add-self-2 c = let fits = c.requires Refused in let is = c.count-2.ensures in omega (arith, fits, is)

pub overflow_add-self-3 : goal.overflow_add-self-3
overflow_add-self-3 c = let fits = c.requires Rejected in let is = c.count-3.ensures in omega (arith, fits, is)

pub overflow_add-self-4 : goal.overflow_add-self-4
overflow_add-self-4 c = let fits = c.requires Granted in let is = c.count-4.ensures in omega (arith, fits, is)

pub overflow_add-self-5 : goal.overflow_add-self-5
overflow_add-self-5 c = let fits = c.requires Pushed in let is = c.count-5.ensures in omega (arith, fits, is)
