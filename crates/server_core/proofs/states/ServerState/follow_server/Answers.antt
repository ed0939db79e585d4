use Rattle.server_core.proofs.Prelude.{◌==◌, ◌∙◌, Ends_push, Hears_failed, Hears_shutdown, Stops_push, Wants, ack_at, ap, asks_room, false}
use Rattle.server_core.proofs.Prelude.{has_sent, heard_goes, is_push_as, is_running, no_at, refl, ring_at, stays_room, sym, true}
use Rattle.server_core.proofs.states.ServerState.follow_server.Goals as goal

pub hear_token-requires-clause-awaited : goal.hear_token-requires-clause-awaited
hear_token-requires-clause-awaited c = (c.args.from, rw c.in-Token.is at c.requires.awaited)

pub returns-in-Notice-clause-ok : goal.returns-in-Notice-clause-ok
returns-in-Notice-clause-ok c p is =
    heard_goes (c.args.self.now.me.0 == 0) (Wants c.args.from) c.args.self.now c.args.out.now refl refl (c.hear_notice.ensures c.args.from)
    p (rw c.in-Notice.is at is)

pub returns-in-Notice-clause-room : goal.returns-in-Notice-clause-room
returns-in-Notice-clause-room c = stays_room (c.hear_notice.ensures c.args.from) c.requires.verdict refl refl refl

pub returns-in-Failed-clause-ok : goal.returns-in-Failed-clause-ok
returns-in-Failed-clause-ok c p is =
    let s = c.args.self.now in
    let failed = c.in-Failed in
    heard_goes (is_running (ring_at s) failed.token) (Hears_failed c.args.from failed.token failed.why) s c.args.out.now refl refl
    (c.hear_failed.ensures c.args.from failed.why) p (rw failed.is at is)

pub returns-in-Failed-clause-room : goal.returns-in-Failed-clause-room
returns-in-Failed-clause-room c = stays_room (c.hear_failed.ensures c.args.from c.in-Failed.why) c.requires.verdict refl refl refl

pub returns-in-Shutdown-clause-ok : goal.returns-in-Shutdown-clause-ok
returns-in-Shutdown-clause-ok c p is =
    heard_goes (c.args.from.0 == 0) (Hears_shutdown c.args.from) c.args.self.now c.args.out.now refl refl
    (c.hear_shutdown.ensures c.args.from) p (rw c.in-Shutdown.is at is)

pub returns-in-Shutdown-clause-room : goal.returns-in-Shutdown-clause-room
returns-in-Shutdown-clause-room c = stays_room (c.hear_shutdown.ensures c.args.from) c.requires.verdict refl refl refl

pub returns-in-PushNo-clause-ok : goal.returns-in-PushNo-clause-ok
returns-in-PushNo-clause-ok c p is =
    let id = c.in-PushNo.id in
    let stands = rw c.in-PushNo.is at c.requires.awaited in
    let rule = rw c.in-PushNo.is at is in
    heard_goes (is_push_as c.args.from id false (asks_room c.args.from id stands.0)) (Stops_push c.args.from id stands.0) c.args.self.now
    c.args.out.now refl refl (c.hear_no.ensures c.args.from id stands.0 stands.1) p (sym (ap (no_at c.args.from id) stands.1) ∙ rule)

pub returns-in-PushNo-clause-room : goal.returns-in-PushNo-clause-room
returns-in-PushNo-clause-room c =
    let stands = rw c.in-PushNo.is at c.requires.awaited in
    stays_room (c.hear_no.ensures c.args.from c.in-PushNo.id stands.0 stands.1) c.requires.verdict refl refl refl

pub returns-in-PushAck-clause-ok : goal.returns-in-PushAck-clause-ok
returns-in-PushAck-clause-ok c p is =
    let id = c.in-PushAck.id in
    let stands = rw c.in-PushAck.is at c.requires.awaited in
    let rule = rw c.in-PushAck.is at is in
    heard_goes (is_push_as c.args.from id true (has_sent c.args.from id stands.0)) (Ends_push c.args.from id stands.0) c.args.self.now
    c.args.out.now refl refl (c.hear_ack.ensures c.args.from id stands.0 stands.1) p (sym (ap (ack_at c.args.from id) stands.1) ∙ rule)

pub returns-in-PushAck-clause-room : goal.returns-in-PushAck-clause-room
returns-in-PushAck-clause-room c =
    let stands = rw c.in-PushAck.is at c.requires.awaited in
    stays_room (c.hear_ack.ensures c.args.from c.in-PushAck.id stands.0 stands.1) c.requires.verdict refl refl refl
