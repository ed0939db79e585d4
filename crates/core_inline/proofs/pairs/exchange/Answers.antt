use Rattle.core_inline.proofs.Prelude.{err_from_is_err_and, sym, ◌∙◌}
use Rattle.core_inline.proofs.Exchanging.{begins_move, delivers, is_answered, not_stuck, running}
use Rattle.core_inline.proofs.Told.{enabled, stopped}
use Rattle.core_inline.proofs.pairs.exchange.Goals as goal

-- The rank begins the call.

pub carry_out-requires : goal.carry_out-requires
carry_out-requires c =
    record { whole = c.requires.ready.whole; enabled = enabled _ _ _ _ (begins_move _ c.requires.ready _ c.requires.can).stage }

pub returns-in_err-begun-clause-failed : goal.returns-in_err-begun-clause-failed
returns-in_err-begun-clause-failed c =
    let p = err_from_is_err_and c.from_residual.result c.from_residual.ensures.1 in
    rw (p.1, p.2) (stopped _ _ _ _ (begins_move _ c.requires.ready _ c.requires.can).stage _ _ c.in_err-begun.ensures.stops)

pub loop-from-init : goal.loop-from-init
loop-from-init c =
    let e = c.in_ok-begun.ensures in
    let now = (begins_move _ c.requires.ready _ c.requires.can).goes _ e.happened e.stamp in
    record { goes = rw e.told now; whole = e.goes_on; config = e.config }

-- A letter is handled.

pub carry_out-requires-in-Some-clause-enabled : goal.carry_out-requires-in-Some-clause-enabled
carry_out-requires-in-Some-clause-enabled c =
    let i = c.loop-from.invariant in
    enabled _ _ _ _ (delivers _ _ (running _ c.requires.ready) _ _ i.goes _ _ c.in-Some.ensures.under_way).move.stage

pub returns-in_err-answer-clause-failed : goal.returns-in_err-answer-clause-failed
returns-in_err-answer-clause-failed c =
    let i = c.loop-from.invariant in
    let p = err_from_is_err_and c.from_residual-in_err-answer.result c.from_residual-in_err-answer.ensures.1 in
    let d = delivers _ _ (running _ c.requires.ready) _ _ i.goes _ _ c.in-Some.ensures.under_way in
    rw (p.1, p.2) (stopped _ _ _ _ d.move.stage _ _ c.in_err-answer.ensures.stops)

pub returns-in-Some-2-clause-answered : goal.returns-in-Some-2-clause-answered
returns-in-Some-2-clause-answered c =
    let i = c.loop-from.invariant in
    let e = c.in_ok-answer.ensures in
    let runs = running _ c.requires.ready in
    let d = delivers _ _ runs _ _ i.goes _ _ c.in-Some.ensures.under_way in
    let over = d.over _ (sym e.told ∙ c.in-Some-2.is) in
    let now = d.move.goes _ e.happened e.stamp in
    is_answered _ _ runs _ e.goes_on _ (rw over.0 at now) (λ last. absurd (let other = over.1 in cc (last, other)))

pub loop-from-smaller : goal.loop-from-smaller
loop-from-smaller c =
    let i = c.loop-from.invariant in
    let e = c.in_ok-answer.ensures in
    let d = delivers _ _ (running _ c.requires.ready) _ _ i.goes _ _ c.in-Some.ensures.under_way in
    d.less _ e.happened (d.move.goes _ e.happened e.stamp).lone

pub loop-from-preserved : goal.loop-from-preserved
loop-from-preserved c =
    let i = c.loop-from.invariant in
    let e = c.in_ok-answer.ensures in
    let d = delivers _ _ (running _ c.requires.ready) _ _ i.goes _ _ c.in-Some.ensures.under_way in
    let now = d.move.goes _ e.happened e.stamp in
    record { goes = rw (d.on (sym e.told ∙ c.in_default-2.is)) at now; whole = e.goes_on; config = e.config ∙ i.config }

-- No letter is under way.

pub unreachable-requires : goal.unreachable-requires
unreachable-requires c =
    let i = c.loop-from.invariant in
    not_stuck _ _ (running _ c.requires.ready) _ (rw c.in-None.is at i.goes) c.in_default.ensures.none_asked c.in_default.ensures.none_told

pub returns-clause-answered : goal.returns-clause-answered
returns-clause-answered c =
    let i = c.loop-from.invariant in
    is_answered _ _ (running _ c.requires.ready) _ i.whole _ (rw c.in-Some-begun.is at i.goes)
    (λ last. (c.in_default.ensures.none_asked, c.in_default.ensures.none_told))
