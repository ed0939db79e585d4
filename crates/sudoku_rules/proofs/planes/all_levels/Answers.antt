use Rattle.std.proofs.Common.{sym, ap, ◌∙◌, arith, ltb}
use Rattle.std.proofs.lemmas.Bool.{le-ltb}
use Rattle.std.proofs.lemmas.List.{get_or-replicate}
use Rattle.sudoku_rules.specs.inside.Planes.{has, many}
use Rattle.sudoku_rules.proofs.PlaneBits.{has_none, many_none, many_more}
use Rattle.sudoku_rules.proofs.planes.all_levels.Goals as goal

pub loop-plane-init : goal.loop-plane-init
loop-plane-init g c = λ n k within.
    ap (λ p. has p k) (get_or-replicate g.row.SIDE n 0 0 within) ∙ has_none k
    ∙ sym (le-ltb n (many c.args.planes.now 0 k) (omega (arith, many_none c.args.planes.now k)))

pub loop-plane-preserved : goal.loop-plane-preserved
loop-plane-preserved g c = λ n k within.
    c.add_plane.ensures (λ j. many c.args.planes.now c.loop-plane.plane-index j)
    (λ i j inside. c.loop-plane.invariant i j (omega arith)) n k (omega arith)
    ∙ ap (λ h. ltb n h) (sym (many_more c.args.planes.now c.loop-plane.plane-index k))
