use Rattle.bag_ledger.specs.Steps.{after}
use Rattle.ledger_rules.proofs.Finding.{none_from, step_from}
use Rattle.ledger_rules.proofs.laws.rule_laws.Goals as goal

pub returns : goal.returns
returns c = λ b e. (step_from b e, none_from b (after b e) e)
