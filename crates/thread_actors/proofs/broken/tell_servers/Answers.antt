use Rattle.std.proofs.Common.{◌==◌, not, refl}
use Rattle.adlb_unit.specs.declared.names.Server.{Server}
use Rattle.thread_actors.specs.World.{server_named}
use Rattle.thread_actors.specs.ServerJobs.{abort_to}
use Rattle.thread_actors.proofs.Telling.{is_itself, is_other, one_left, one_told}
use Rattle.thread_actors.proofs.broken.tell_servers.Goals.{then-number-me, else-number-me}
use Rattle.thread_actors.proofs.broken.tell_servers.Goals as goal

pub loop-number-preserved : goal.loop-number-preserved
loop-number-preserved g c =
    let was = c.loop-number.invariant in
    let now = c.loop-number.desk in
    let old = c.args.desk.now in
    let n = c.loop-number.number in
    let me = c.args.me.0 in
    let test = λ (s : Server). not (s.0 == me) in
    elim c.if-number-me.branch [
      | then-number-me w ↦
          rw w.desk-is (one_told (abort_to c.args.trouble) test server_named n old now w.tell.new.self was
          (is_other n me me refl w.if-number-me.true) (record { same = w.tell.ensures.same; told_are = w.tell.ensures.told }))
      | else-number-me w ↦
          rw w.desk-is (one_left (abort_to c.args.trouble) test server_named n old now was (is_itself n me me refl w.if-number-me.false))
    ]
