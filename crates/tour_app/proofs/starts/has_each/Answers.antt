use Rattle.std.proofs.Common.{◌≡◌, ◌∙◌, ap, sym, arith, true, false}
use Rattle.tour_app.specs.Starts.{has_each}
use Rattle.tour_app.proofs.StartTests.{more_each, none_each, not_each}
use Rattle.tour_app.proofs.starts.has_each.Goals as goal

pub loop-city-init : goal.loop-city-init
loop-city-init c = none_each c.args.tour.now

pub loop-city-preserved : goal.loop-city-preserved
loop-city-preserved c =
    more_each c.loop-city.city c.args.tour.now c.loop-city.invariant (omega arith)

pub returns : goal.returns
returns c =
    let e : c.loop-city.city ≡ c.args.count = omega arith in
    sym (sym (ap (λ k. has_each k c.args.tour.now) e) ∙ c.loop-city.invariant)

pub returns-then-times-ne1 : goal.returns-then-times-ne1
returns-then-times-ne1 c =
    sym (not_each c.args.count c.loop-city.city c.args.tour.now c.loop-city-test.true (λ one. c.if-times-ne1.true (c.times.ensures ∙ one)))
