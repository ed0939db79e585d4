use Rattle.rank_mail.proofs.Steps.{split_delivers}
use Rattle.rank_mail.proofs.rule.split_off.Goals as goal

pub another-requires-clause-rule : goal.another-requires-clause-rule
another-requires-clause-rule c = split_delivers _ _ c.requires.gets
