use Rattle.std.proofs.Common.{◌≡◌, ◌-◌, ◌∙◌, ◌++◌, ap, sym, arith, append-nil}
use Rattle.std.specs.List.{range_with_len}
use Rattle.tour_app.specs.Works.{pairs_among}
use Rattle.tour_app.proofs.Desks.{among_step}
use Rattle.tour_app.proofs.desk.append_pairs.Goals as goal

pub loop-third-init : goal.loop-third-init
loop-third-init c = sym (append-nil c.args.units.now.items)

pub loop-third-preserved : goal.loop-third-preserved
loop-third-preserved c =
    among_step c.args.second c.loop-third.third c.args.units.now.items c.loop-third.units.items _ (omega arith) c.loop-third.invariant
    c.in_ok-append_pair.ensures

pub returns : goal.returns
returns c =
    let e : c.loop-third.third - 1 ≡ c.args.count - 1 = omega arith in
    c.loop-third.invariant ∙ ap (λ k. c.args.units.now.items ++ pairs_among c.args.second (range_with_len 1 k)) e
