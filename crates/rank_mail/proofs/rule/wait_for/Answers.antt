use Rattle.rank_mail.proofs.Steps.{receive_delivers}
use Rattle.rank_mail.proofs.rule.wait_for.Goals as goal

pub recv_as-requires-clause-rule : goal.recv_as-requires-clause-rule
recv_as-requires-clause-rule g c = (receive_delivers _ _ c.loop.invariant.gets, λ items views h at. tt)
