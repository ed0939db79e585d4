use Rattle.std.proofs.Common.{◌*◌, ◌++◌, ◌∙◌, ap}
use Rattle.tour_app.specs.Bodies.{words_in}
use Rattle.tour_app.proofs.Common.{cities_by, tour_by}
use Rattle.tour_app.proofs.bodies.read_sized.Goals as goal

pub whole_start-requires-clause-cities : goal.whole_start-requires-clause-cities
whole_start-requires-clause-cities c =
    cities_by c.args.count c.args.bytes.now c.read_words.new.rows.items c.deref.result.now c.in_ok-tour.tour.now
    c.is_whole.result c.requires
    (c.in_ok-tour.ensures.words ∙ ap (λ l. l ++ words_in (c.args.count * c.args.count) c.args.bytes.now) c.new-rows.ensures.items)
    c.deref.ensures.value c.is_whole.ensures c.if-not-is_whole.false

pub whole_start-requires-clause-tour : goal.whole_start-requires-clause-tour
whole_start-requires-clause-tour c =
    tour_by c.args.count c.deref.result.now c.in_ok-tour.tour.now c.is_whole.result c.is_whole.ensures c.if-not-is_whole.false
