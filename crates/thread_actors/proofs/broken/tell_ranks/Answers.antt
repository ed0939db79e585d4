use Rattle.std.proofs.Common.{◌≡◌, ◌<◌, sym, ◌∙◌, arith}
use Rattle.thread_actors.specs.World.{rank_named}
use Rattle.thread_actors.specs.ServerJobs.{broken_to, waits_for}
use Rattle.thread_actors.proofs.Telling.{one_left, one_told}
use Rattle.thread_actors.proofs.broken.tell_ranks.Goals.{then-is_waiting, else-is_waiting}
use Rattle.thread_actors.proofs.broken.tell_ranks.Goals as goal

pub loop-number-preserved : goal.loop-number-preserved
loop-number-preserved g c = λ s x waits.
    let was = c.loop-number.invariant s x waits in
    let now = c.loop-number.desk in
    let old = c.args.desk.now in
    let n = c.loop-number.number in
    let told = broken_to c.args.trouble in
    let low : n < c.args.config.now.ranks = omega (arith, c.loop-number-test.true) in
    let is : c.is_waiting.result ≡ waits_for s x (rank_named n) = c.is_waiting.ensures _ (waits n low) in
    elim c.if-is_waiting.branch [
      | then-is_waiting w ↦
          rw w.desk-is (one_told told (waits_for s x) rank_named n old now w.tell.new.self was (sym is ∙ w.if-is_waiting.true)
          (record { same = w.tell.ensures.same; told_are = w.tell.ensures.told }))
      | else-is_waiting w ↦
          rw w.desk-is (one_left told (waits_for s x) rank_named n old now was (sym is ∙ w.if-is_waiting.false))
    ]
