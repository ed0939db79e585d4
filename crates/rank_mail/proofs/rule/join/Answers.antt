use Rattle.rank_mail.proofs.Steps.{join_delivers}
use Rattle.rank_mail.proofs.rule.join.Goals as goal

pub absorb-requires-clause-rule : goal.absorb-requires-clause-rule
absorb-requires-clause-rule c = join_delivers _ _ _ _ c.requires.gets c.requires.sends c.requires.next
