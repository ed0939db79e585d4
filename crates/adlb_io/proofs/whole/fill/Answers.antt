use Rattle.std.proofs.Common.{arith, refl, length-drop}
use Rattle.adlb_io.proofs.Reading.{filling_more, fills_end}
use Rattle.adlb_io.proofs.whole.fill.Goals as goal

pub returns-then-n-eq0-clause-filled : goal.returns-then-n-eq0-clause-filled
returns-then-n-eq0-clause-filled g c = fills_end _ _ _ _ _ _ _ _ c.loop-at.invariant.so_far c.in_ok-n.ensures.given c.if-n-eq0.true
    (rw c.read.auto.room (omega (arith, c.loop-at-test.true, length-drop c.loop-at.at c.loop-at.room))) c.loop-at.invariant.within

pub loop-at-preserved : goal.loop-at-preserved
loop-at-preserved g c = filling_more _ _ _ _ _ _ _ _ _ _ _ c.loop-at.invariant c.loop-at-test.true refl c.read.auto.room
    c.in_ok-n.ensures.bound c.in_ok-n.ensures.given c.in_ok-n.ensures.counted
