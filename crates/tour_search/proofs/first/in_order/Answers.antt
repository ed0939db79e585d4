use Rattle.std.proofs.Common.{rules, true, ◌+◌, ◌++◌, ◌∷◌, [], arith, subst, sym, ◌≡◌, ◌∙◌, ap, List, ℕ}
use Rattle.std.specs.Bool.{if◌then◌else◌}
use Rattle.std.specs.List.{range_with_len}
use Rattle.std.specs.Result.{is_ok}
use Rattle.tour_law.specs.Tours.{IsTour}
use Rattle.tour_law.proofs.Enumerated.{range_tour}
use Rattle.tour_search.proofs.Through.{range_more}
use Rattle.tour_search.proofs.first.in_order.Goals as goal

pub loop-city-preserved : goal.loop-city-preserved
loop-city-preserved c =
    let ok : is_ok c.push.result ≡ true = search rules in
    let same : 0 + c.loop-city.city ≡ c.loop-city.city = omega arith in
    c.push.ensures.items
    ∙ ap (λ b. if b then c.loop-city.order.items ++ c.loop-city.city ∷ [] else c.loop-city.order.items) ok
    ∙ ap (λ l. l ++ c.loop-city.city ∷ []) c.loop-city.invariant
    ∙ ap (λ k. range_with_len 0 c.loop-city.city ++ k ∷ []) (sym same) ∙ sym (range_more 0 c.loop-city.city)

pub returns : goal.returns
returns c =
    let e : c.loop-city.city ≡ c.args.cities.now.count = omega arith in
    subst (λ (l : List ℕ). IsTour c.args.cities.now.count l) (sym (c.loop-city.invariant ∙ ap (range_with_len 0) e))
    (range_tour c.args.cities.now.count (omega arith))
