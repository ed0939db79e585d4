use Rattle.std.proofs.Common.{◌≡◌, ◌∙◌, ap, arith, length, sym, true}
use Rattle.tour_law.specs.Search.{is_better}
use Rattle.tour_law.specs.Tours.{cost}
use Rattle.tour_law.proofs.Once.{tour-long}
use Rattle.tour_app.specs.Starts.{costs}
use Rattle.tour_app.proofs.Pairs.{answer_is, no_answer}
use Rattle.tour_app.proofs.working.answer_of.Goals as goal

pub returns-then-not-is_beaten_by : goal.returns-then-not-is_beaten_by
returns-then-not-is_beaten_by c =
    no_answer c.args.start.now c.args.second c.args.third c.in_ok-best.best.cities.items c.in_ok-best.ensures.best
    (sym c.is_beaten_by.ensures ∙ c.if-not-is_beaten_by.true)

pub new-tour-requires : goal.new-tour-requires
new-tour-requires c =
    let long = tour-long c.args.start.now.cities.count c.in_ok-best.best.cities.items c.in_ok-best.ensures.known.tour in
    let few = c.requires.few in
    omega (arith, long, few, ap length c.from_vec.ensures)

pub returns : goal.returns
returns c =
    let s = c.args.start.now in
    let same = c.new-tour.ensures ∙ c.from_vec.ensures in
    answer_is s c.args.second c.args.third c.in_ok-best.best.cost c.new-tour.result (same ∙ c.in_ok-best.ensures.best)
    (c.in_ok-best.ensures.known.cost ∙ ap (cost (costs s)) (sym same))
    (ap (λ t. is_better (costs s) t s.first) same ∙ sym c.is_beaten_by.ensures ∙ c.if-not-is_beaten_by.false)
