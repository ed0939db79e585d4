use Rattle.std.proofs.Common.{◌-◌, ap, ◌∙◌, Some, arith}
use Rattle.thread_actors.proofs.Ranks.{all_past, one_past}
use Rattle.thread_actors.proofs.rolls.Roll.set_absent.Goals as goal

pub loop-number-preserved : goal.loop-number-preserved
loop-number-preserved c =
    let was = c.loop-number.invariant in let now = c.set_over.ensures in
    let low = c.args.ranks - c.args.absent in record {
      over = λ k b below at.
          now.over k _ (was.over k b below at)
          ∙ ap Some (one_past k low c.loop-number.number b (omega (arith, c.loop-number.auto.number, c.saturating_sub-number.ensures)));
      waits = now.waits ∙ was.waits;
    }

pub returns-clause-over : goal.returns-clause-over
returns-clause-over c = λ k b below at.
    c.loop-number.invariant.over k b below at
    ∙ ap Some (all_past k (c.args.ranks - c.args.absent) c.loop-number.number b (omega (arith, below, c.loop-number-test.false)))
