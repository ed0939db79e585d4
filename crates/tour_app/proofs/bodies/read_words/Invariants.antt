use Rattle.tour_app.proofs.Common.{WordsSoFar}
use Rattle.tour_app.proofs.bodies.read_words.Given as goal

abbrev pub invariant-loop-word : goal.invariant-loop-word
invariant-loop-word l = WordsSoFar l.count l.bytes l.fn.rows.items l._word l.rest l.rows.items
