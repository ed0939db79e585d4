use Rattle.std.proofs.Common.{◌≡◌, ◌≤◌, ◌∙◌, arith, sym, ap, subst, inl, inr}
use Rattle.std.proofs.lemmas.Bool.{cases_eq}
use Rattle.tour_search.specs.Cities.{costs}
use Rattle.tour_search.proofs.ways.way_out.Goals as goal

pub loop-to-preserved : goal.loop-to-preserved
loop-to-preserved c = record {
  low = omega (arith, c.cheaper-least.ensures.low, c.loop-to.invariant.low);
  cheap = λ to below other. elim (cases_eq to c.loop-to.to) [
    | inl same ↦
        subst (λ k. c.cheaper-least.result ≤ costs c.args.cities.now c.args.from k) (sym same)
        (c.cheaper-least.ensures.cheap (λ e. other (e ∙ sym same)))
    | inr differs ↦
        let old = c.loop-to.invariant.cheap to (omega arith) other in
        omega (arith, old, c.cheaper-least.ensures.low)
  ];
}
