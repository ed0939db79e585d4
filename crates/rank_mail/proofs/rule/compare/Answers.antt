use Rattle.rank_mail.proofs.Steps.{receiver_learns}
use Rattle.rank_mail.proofs.rule.compare.Goals as goal

pub learn_as-requires-clause-rule : goal.learn_as-requires-clause-rule
learn_as-requires-clause-rule c = receiver_learns _ _ c.requires.gets
