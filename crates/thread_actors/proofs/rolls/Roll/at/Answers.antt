use Rattle.std.proofs.Common.{◌≡◌, ◌==◌, ◌||◌, ◌&&◌, ◌∙◌, arith}
use Rattle.std.proofs.lemmas.List.{length-set}
use Rattle.rank_mail.specs.declared.posted.Posted.{Posted}
use Rattle.server_law.specs.State.{is_finished}
use Rattle.thread_actors.specs.World.{rank_named}
use Rattle.thread_actors.specs.ServerJobs.{waits_for}
use Rattle.thread_actors.proofs.Ranks.{it_asks, it_does_not, it_waits, set_next}
use Rattle.thread_actors.proofs.rolls.Roll.at.Goals.{then-is_waiting, else-is_waiting+then-from-number, else-is_waiting+else-from-number}
use Rattle.thread_actors.proofs.rolls.Roll.at.Goals as goal

pub loop-number-preserved : goal.loop-number-preserved
loop-number-preserved c =
    let was = c.loop-number.invariant in
    let n = c.loop-number.number in
    let s = c.args.state.now in
    let waits = c.is_waiting.result in
    let asks = c.awaits_answer-asks.result in
    let v = c.if-is_waiting.roll in
    let next : v ≡ (waits || ((c.args.from == n) && asks)) = elim c.if-is_waiting.branch [
      | then-is_waiting w ↦ it_waits v waits asks c.args.from n w.roll-is w.if-is_waiting.true
      | else-is_waiting+then-from-number w ↦ it_asks v waits asks c.args.from n w.roll-is w.if-is_waiting.false w.if-from-number.true
      | else-is_waiting+else-from-number w ↦ it_does_not v waits asks c.args.from n w.roll-is w.if-is_waiting.false w.if-from-number.false
    ] in
    let top = c.args.config.now.ranks_within.1 in
    let x : Posted = record { from = c.args.from; letter = c.args.letter.now } in
    let roll = c.loop-number.roll in
    record {
      waits_long = length-set roll.waits n v ∙ was.waits_long;
      over_long = length-set roll.over n c.has_finished.result ∙ was.over_long;
      waits =
          set_next (λ k. waits_for s x (rank_named k)) roll.waits n v
          (omega (arith, c.loop-number-test.true, top, was.waits_long))
          (next ∙ (λ i. c.is_waiting.ensures i || ((c.args.from == n) && c.awaits_answer-asks.ensures i))) was.waits;
      over =
          set_next (λ k. is_finished s.kept (rank_named k)) roll.over n c.has_finished.result
          (omega (arith, c.loop-number-test.true, top, was.over_long)) c.has_finished.ensures was.over;
    }
