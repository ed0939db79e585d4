use Rattle.std.proofs.Common.{◌∙◌, arith, refl}
use Rattle.made_jobs.specs.Made.{shuffled}
use Rattle.made_jobs.proofs.Drawing.{exchanged_all, exchanges_next}
use Rattle.made_jobs.proofs.makers.Maker.shuffled_signs.Goals as goal

pub loop-place-init : goal.loop-place-init
unfolding shuffled
loop-place-init c = record { long = refl; some = omega arith; drawn = refl }

pub loop-place-preserved : goal.loop-place-preserved
loop-place-preserved c = record {
  long = c.swap.ensures.len ∙ c.loop-place.invariant.long;
  some = omega (arith, c.loop-place-test.true);
  drawn = exchanges_next c.loop-place.place c.word.result _ _ _ _ _ c.loop-place-test.true c.word.ensures c.swap.ensures.after
      c.loop-place.invariant.drawn;
}

pub returns : goal.returns
returns c =
    exchanged_all c.loop-place.place _ _ c.loop-place-test.false c.loop-place.invariant.some c.loop-place.invariant.drawn
