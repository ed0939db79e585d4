use Rattle.rank_mail.proofs.Steps.{receive_delivers}
use Rattle.rank_mail.proofs.rule.receive.Goals as goal

pub try_recv_as-requires-clause-rule : goal.try_recv_as-requires-clause-rule
try_recv_as-requires-clause-rule g c = (receive_delivers _ _ c.loop-tries.invariant.gets, λ items views h at. tt)
