use Rattle.std.proofs.Common.{◌≡◌, drop}
use Rattle.ledger_rules.specs.Table.{broken}
use Rattle.ledger_rules.proofs.table.broken.Given as goal

abbrev pub invariant-loop-rule : goal.invariant-loop-rule
invariant-loop-rule l = broken l.machine (drop l.rule-index l.rules) ≡ broken l.machine l.rules
