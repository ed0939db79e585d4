use Rattle.std.proofs.Common.{rules, arith, ◌≡◌, ◌∙◌, ◌++◌, ◌∷◌, [], List, ℕ, ap, length, subst, true}
use Rattle.std.specs.Bool.{if◌then◌else◌}
use Rattle.std.specs.Result.{is_ok}
use Rattle.tour_app.specs.Bodies.{common_part}
use Rattle.tour_search.specs.Cities.{AreCities, CitiesModel}
use Rattle.tour_app.proofs.Common.{common_is, common_short, if_ok_same, if_ok_short}
use Rattle.tour_app.proofs.starts.Start.common.Goals as goal

pub returns-clause-common : goal.returns-clause-common
returns-clause-common c =
    let ok : is_ok c.push.result ≡ true = search rules in
    if_ok_same _ _ _ (c.from_vec.ensures ∙ common_is c.args.self.now c.count.result c.rows.result.now c.order.result.now
    c.new-bytes.result.items c.push.new.self.items c.append_words.new.bytes.items c.append.new.bytes.items
    (c.count.ensures.is ∙ ap (λ (m : CitiesModel). m.count) c.cities.ensures)
    (c.rows.ensures.rows ∙ ap (λ (m : CitiesModel). m.rows) c.cities-2.ensures) c.order.ensures.order c.new-bytes.ensures.items
    (c.push.ensures.items ∙ ap (λ b. if b then c.new-bytes.result.items ++ c.count.result ∷ [] else c.new-bytes.result.items) ok)
    c.in_ok-append_words.ensures c.in_ok-append.ensures) c.share.ensures

pub returns-clause-few : goal.returns-clause-few
returns-clause-few c =
    let ok : is_ok c.push.result ≡ true = search rules in
    let is : c.append.new.bytes.items ≡ common_part c.args.self.now =
    common_is c.args.self.now c.count.result c.rows.result.now c.order.result.now
    c.new-bytes.result.items c.push.new.self.items c.append_words.new.bytes.items c.append.new.bytes.items
    (c.count.ensures.is ∙ ap (λ (m : CitiesModel). m.count) c.cities.ensures)
    (c.rows.ensures.rows ∙ ap (λ (m : CitiesModel). m.rows) c.cities-2.ensures) c.order.ensures.order c.new-bytes.ensures.items
    (c.push.ensures.items ∙ ap (λ b. if b then c.new-bytes.result.items ++ c.count.result ∷ [] else c.new-bytes.result.items) ok)
    c.in_ok-append_words.ensures c.in_ok-append.ensures in
    let short = common_short c.args.self.now (subst (λ (m : CitiesModel). AreCities m) c.cities-2.ensures c.rows.ensures.are)
    c.order.ensures.tour in
    if_ok_short 1048576 _ _ (omega (arith, short, ap length is, ap length c.from_vec.ensures)) c.share.ensures
