use Rattle.std.proofs.Common.{◌≡◌, ◌<◌, ◌∙◌, ◌+◌, ◌-◌, ap, sym, arith, get_or, length, List, [], ◌∷◌, ℕ, refl, Some, slice_get}
use Rattle.std.proofs.lemmas.List.Elements.{All-get_or}
use Rattle.tour_law.specs.Tours.{Costs, IsTour, cost}
use Rattle.tour_law.specs.Beginnings.{path_cost}
use Rattle.tour_law.proofs.Beginnings.{cost-full, last_of}
use Rattle.tour_law.proofs.Once.{tour-long}
use Rattle.tour_search.specs.Cities.{costs}
use Rattle.tour_search.proofs.Through.{tour_begins}
use Rattle.tour_search.proofs.first.cost_of.Goals as goal

cost_one : (c : Costs) (tour : List ℕ) → length tour ≡ 1 → 0 ≡ cost c tour
cost_one c [] e = absurd (omega arith)
cost_one c (x ∷ []) e = refl
cost_one c (x ∷ y ∷ rest) e = absurd (omega arith)

home : (tour : List ℕ) → slice_get tour 0 ≡ Some 0 → get_or tour 0 0 ≡ 0
home [] e = refl
home (x ∷ rest) e = cc

pub returns-then-count-eq1 : goal.returns-then-count-eq1
returns-then-count-eq1 c =
    let long = tour-long c.args.cities.now.count c.args.tour.now c.requires in
    cost_one (costs c.args.cities.now) c.args.tour.now (omega (arith, long, c.count-count.ensures.is, c.if-count-eq1.true))

pub cost_along-requires-clause-some : goal.cost_along-requires-clause-some
cost_along-requires-clause-some c =
    let long = tour-long c.args.cities.now.count c.args.tour.now c.requires in
    omega (arith, long, c.count-count.ensures.is, c.count-count.ensures.some)

pub cost_along-requires-clause-few : goal.cost_along-requires-clause-few
cost_along-requires-clause-few c =
    let long = tour-long c.args.cities.now.count c.args.tour.now c.requires in
    omega (arith, long, c.count-count.ensures.is, c.count-count.ensures.few)

pub bounds-tour-count : goal.bounds-tour-count
bounds-tour-count c =
    let long = tour-long c.args.cities.now.count c.args.tour.now c.requires in
    omega (arith, long, c.count-count.ensures.is, c.count-count.ensures.some)

pub bounds-tour-0 : goal.bounds-tour-0
bounds-tour-0 c =
    let long = tour-long c.args.cities.now.count c.args.tour.now c.requires in
    omega (arith, long, c.count-count.ensures.is, c.count-count.ensures.some)

pub overflow_add-result : goal.overflow_add-result
overflow_add-result c =
    let long = tour-long c.args.cities.now.count c.args.tour.now c.requires in
    omega (arith, long, c.count-count.ensures.is, c.count-count.ensures.few, c.cost_along.ensures.low, c.cost.ensures.low)

pub returns : goal.returns
returns c =
    let n = c.args.cities.now.count in
    let k = costs c.args.cities.now in
    let t = c.args.tour.now in
    let long = tour-long n t c.requires in
    let is : c.count-count.result - 1 ≡ length t - 1 = omega (arith, long, c.count-count.ensures.is) in
    let b = tour_begins n t (omega (arith, c.count-count.ensures.is, c.count-count.ensures.some, c.if-count-eq1.false)) c.requires in
    ap (λ s. s + c.cost.result) c.cost_along.ensures.cost
    ∙ ap (λ s. path_cost k t + s)
    (c.cost.ensures.is ∙ ap (λ i. k (get_or t i 0) (get_or t 0 0)) is ∙ ap (k (last_of t)) (home t c.requires.begins))
    ∙ sym (cost-full n k t b)
