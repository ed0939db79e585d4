use Rattle.server_core.proofs.Prelude.{arith, room_less, rule_apart, rule_awaited, server_awaited}
use Rattle.server_core.proofs.states.ServerState.follow_rule.Goals as goal

pub follow-requires-clause-awaited : goal.follow-requires-clause-awaited
follow-requires-clause-awaited c = (rule_awaited c.args.self.now c.in-Rank.from c.args.message).0 (rw c.in-Rank.is at c.requires.expected)

pub follow_server-requires-clause-awaited : goal.follow_server-requires-clause-awaited
follow_server-requires-clause-awaited c =
    server_awaited c.args.self.now c.in-Server.from c.args.message (rw c.in-Server.is at c.requires.expected)

pub follow_server-requires-clause-room : goal.follow_server-requires-clause-room
follow_server-requires-clause-room c = room_less c.requires.room (omega arith)

pub returns-in_ok-follow_server-in-Server-clause-ok : goal.returns-in_ok-follow_server-in-Server-clause-ok
returns-in_ok-follow_server-in-Server-clause-ok c p is =
    let apart = rule_apart c.args.self.now c.in-Server.from c.args.message (rw c.in-Server.is at c.requires.expected) in
    c.in_ok-follow_server-in-Server.ensures.ok p (rw (c.in-Server.is, apart) at is)
