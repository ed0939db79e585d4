use Rattle.server_core.proofs.Prelude.{◌+◌, ◌-◌, ◌<◌, ◌∙◌, Config, ServerModel, ap, arith, behind, counted, room_less, said, said_one, sym}
use Rattle.server_core.proofs.Prelude.{to_server, told_from, told_next, verdict}
use Rattle.server_core.proofs.states.ServerState.tell_others.Goals as goal

pub loop-places-preserved : goal.loop-places-preserved
loop-places-preserved c =
    let t = c.loop-places.self in
    let n = c.loop-places.places in
    let message = verdict c.args.shut in
    let x = to_server (behind t.config t.me n) message in
    let servers = ap (λ (k : Config). k.servers) c.loop-places.invariant.config in
    let within : n < t.config.servers = omega (arith, servers, c.loop-places.invariant.end) in
    record {
      left = ap (λ w. said c.tell_behind.new.out (told_from w message (n + 1)) w) c.tell_behind.ensures.counted
          ∙ ap (λ o. said o (told_from t message (n + 1)) (counted t x.to)) c.tell_behind.ensures.told
          ∙ said_one c.loop-places.out x (told_from t message (n + 1)) t
          ∙ ap (λ l. said c.loop-places.out l t) (sym (told_next t message n within)) ∙ c.loop-places.invariant.left;
      config = ap (λ (s : ServerModel). s.config) c.tell_behind.ensures.counted ∙ c.loop-places.invariant.config;
      end = c.loop-places.invariant.end;
      room = λ more room. c.tell_behind.ensures.room (c.args.self.now.config.servers - (n + 1) + more)
          (room_less (c.loop-places.invariant.room more room) (omega (arith, servers, within)));
    }

pub returns-clause-room : goal.returns-clause-room
returns-clause-room c more room = room_less (c.loop-places.invariant.room more room) (omega arith)
