use Rattle.std.proofs.Common.{List, Vec, Global, ℕ, sym, subst, ap, ◌≡◌, ◌∙◌}
use Rattle.run_command.specs.Reports.{Reported}
use Rattle.tour_app.specs.Found.{HoldLeast, all_found}
use Rattle.tour_app.specs.declared.outcomes.TourOutcome.{TourOutcome}
use Rattle.tour_command.proofs.Joining.{told_least}
use Rattle.tour_command.proofs.telling.text_of.Goals as goal
use Rattle.tour_search.specs.Cities.{costs}

pub render_tour-requires : goal.render_tour-requires
render_tour-requires c =
    let same : c.deref.result.now ≡ c.args.report.now.outcomes =
    c.deref.ensures.value ∙ ap (λ (r : Reported TourOutcome). r.outcomes) c.report.view_is in
    subst (λ (os : List TourOutcome). HoldLeast c.args.cities.now.count (costs c.args.cities.now) (all_found os)) (sym same) c.requires

pub returns : goal.returns
returns c = told_least c.args.cities.now (λ (text : Vec ℕ Global). text.items) c.render_tour.result c.render_tour.ensures
