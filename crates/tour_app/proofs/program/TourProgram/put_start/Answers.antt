use Rattle.std.proofs.Common.{◌∙◌, ap, refl, sym, None}
use Rattle.tour_search.specs.Cities.{CitiesModel}
use Rattle.tour_app.proofs.Steps.{few_put, going_so, many_next}
use Rattle.tour_app.proofs.Ways.{whole_way}
use Rattle.tour_app.proofs.program.TourProgram.put_start.Goals as goal

pub returns-then-not-has_many-clause-told : goal.returns-then-not-has_many-clause-told
returns-then-not-has_many-clause-told g c =
    few_put c.args.self.now _ c.args.desk.now c.args.start.now c.requires.start (c.has_many.ensures.few c.if-not-has_many.true)
    c.requires.none c.requires.going

pub returns-then-not-has_many-clause-so_far : goal.returns-then-not-has_many-clause-so_far
returns-then-not-has_many-clause-so_far g c =
    whole_way c.args.self.now _ _ _ c.requires.ready.whole
    (going_so c.args.self.now _ _ c.args.desk.now _ None c.requires.going refl)

pub returns-in_default-clause-so_far : goal.returns-in_default-clause-so_far
returns-in_default-clause-so_far g c =
    whole_way c.args.self.now _ _ _ c.requires.ready.whole
    (going_so c.args.self.now _ _ c.args.desk.now _ None c.requires.going refl)

pub put_batch-requires-clause-going : goal.put_batch-requires-clause-going
put_batch-requires-clause-going g c =
    many_next c.args.self.now _ c.args.desk.now c.args.start.now c.in-Ok.common c.count.result c.requires.start
    (c.has_many.ensures.many c.if-not-has_many.false) c.in-Ok.ensures.common
    (c.count.ensures.is ∙ ap (λ (m : CitiesModel). m.count) c.cities.ensures) c.requires.going
