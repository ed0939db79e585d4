use Rattle.server_core.proofs.Prelude.{◌↔◌, IsRunning, IsTrue, ring_seen, subst, token_says}
use Rattle.server_core.proofs.states.ServerState.awaits_from.Goals as goal

pub returns-in-PushYes : goal.returns-in-PushYes
returns-in-PushYes c = rw (c.in-PushYes.is, ← c.self.view_is) c.asks.ensures.query

pub returns-in-PushNo : goal.returns-in-PushNo
returns-in-PushNo c = rw (c.in-PushNo.is, ← c.self.view_is) c.asks-in-PushNo.ensures.query

pub returns-in-PushAck : goal.returns-in-PushAck
returns-in-PushAck c = rw (c.in-PushAck.is, ← c.self.view_is) c.has_sent.ensures.sent

pub returns-in-Token : goal.returns-in-Token
returns-in-Token c =
    rw (c.in-Token.is, ← c.self.view_is) (token_says c.args.from c.in-Token.token (ring_seen c.self.invariant) c.expects.ensures)

pub returns-in-Failed : goal.returns-in-Failed
returns-in-Failed c =
    rw (c.in-Failed.is, ← c.self.view_is)
    (subst (λ m. IsTrue c.expects_failed.result ↔ IsRunning m c.in-Failed.token) (ring_seen c.self.invariant) c.expects_failed.ensures.row)
