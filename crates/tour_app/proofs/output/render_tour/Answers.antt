use Rattle.std.proofs.Common.{◌∙◌, ap, sym}
use Rattle.tour_app.specs.Found.{all_found, seen}
use Rattle.tour_search.specs.Cities.{costs}
use Rattle.tour_app.proofs.Best.{no_pick, told_by}
use Rattle.tour_app.proofs.output.render_tour.Goals as goal

pub unreachable-requires : goal.unreachable-requires
unreachable-requires c =
    no_pick c.args.cities.now.count (costs c.args.cities.now) (all_found c.args.outcomes.now) c.requires
    (sym (ap seen c.in_default.is) ∙ c.in_ok-best.ensures)

pub returns : goal.returns
returns c =
    told_by _ c.args.cities.now.count (costs c.args.cities.now) (all_found c.args.outcomes.now) c.in-Some.best.cost
    c.in-Some.best.cities.items
    c.count.result c.deref.result.now c.text_of.result c.requires (sym (ap seen c.in-Some.is) ∙ c.in_ok-best.ensures) c.count.ensures.is
    c.deref.ensures.value
    c.text_of.ensures
