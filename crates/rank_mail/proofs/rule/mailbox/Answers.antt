use Rattle.rank_mail.proofs.Steps.{start_delivers}
use Rattle.rank_mail.proofs.rule.mailbox.Goals as goal

pub bounded_with-requires-clause-rule : goal.bounded_with-requires-clause-rule
bounded_with-requires-clause-rule c = start_delivers
