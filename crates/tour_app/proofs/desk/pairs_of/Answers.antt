use Rattle.std.proofs.Common.{◌≡◌, ◌-◌, ◌∙◌, ap, arith}
use Rattle.std.specs.Prelude.{flat_map}
use Rattle.std.specs.List.{range_with_len}
use Rattle.tour_app.specs.Works.{pairs_with}
use Rattle.tour_app.proofs.Desks.{pairs_step}
use Rattle.tour_app.proofs.desk.pairs_of.Goals as goal

pub loop-second-preserved : goal.loop-second-preserved
loop-second-preserved c =
    pairs_step c.args.count c.loop-second.second c.loop-second.units.items _ (omega arith) c.loop-second.invariant
    c.in_ok-append_pairs.ensures

pub returns : goal.returns
returns c =
    let e : c.loop-second.second - 1 ≡ c.args.count - 1 = omega arith in
    c.loop-second.invariant ∙ ap (λ k. flat_map (pairs_with c.args.count) (range_with_len 1 k)) e
