use Rattle.rank_mail.proofs.Steps.{send_delivers}
use Rattle.rank_mail.proofs.rule.send.Goals as goal

pub send_as-requires-clause-rule : goal.send_as-requires-clause-rule
send_as-requires-clause-rule g c = let was = c.loop.invariant in (send_delivers _ _ _ _ was.sends was.from, λ items views h at. tt)
