use Rattle.std.proofs.Common.{◌≡◌, ◌==◌, ◌∙◌, ◌++◌, ◌∷◌, [], ap, sym, append-nil, not, cond, map, true, rules, List}
use Rattle.std.specs.Bool.{if◌then◌else◌}
use Rattle.std.specs.Result.{is_ok}
use Rattle.std.proofs.lemmas.Bool.{eq-eqb, ne_eqb}
use Rattle.tour_app.specs.declared.units.TourUnit.{TourUnit}
use Rattle.tour_app.specs.declared.units.TourUnit.TheVariants.{Pair}
use Rattle.tour_app.proofs.desk.append_pair.Goals as goal

pub returns-then-third-second : goal.returns-then-third-second
returns-then-third-second c =
    sym (append-nil c.args.units.now.items)
    ∙ ap (λ b. c.args.units.now.items ++ map (Pair c.args.second) (cond (not b) (c.args.third ∷ []) []))
    (sym (eq-eqb c.args.third c.args.second c.if-third-second.true))

pub returns : goal.returns
returns c =
    let ok : is_ok c.push_back.result ≡ true = search rules in
    c.push_back.ensures.items
    ∙ ap (λ b. if b then c.args.units.now.items ++ Pair c.args.second c.args.third ∷ [] else c.args.units.now.items) ok
    ∙ ap (λ b. c.args.units.now.items ++ map (Pair c.args.second) (cond (not b) (c.args.third ∷ []) []))
    (sym (ne_eqb c.args.third c.args.second c.if-third-second.false))
