use Rattle.std.proofs.Common.{refl, None}
use Rattle.tour_app.proofs.Steps.{going_so, none_put}
use Rattle.tour_app.proofs.Ways.{whole_way}
use Rattle.tour_app.proofs.program.TourProgram.put_own.Goals as goal

pub returns-in-None-clause-told : goal.returns-in-None-clause-told
returns-in-None-clause-told g c =
    none_put c.args.self.now _ c.args.desk.now c.in-None.is c.requires.none c.requires.going

pub returns-in-None-clause-so_far : goal.returns-in-None-clause-so_far
returns-in-None-clause-so_far g c =
    whole_way c.args.self.now _ _ _ c.requires.ready.whole
    (going_so c.args.self.now _ _ c.args.desk.now _ None c.requires.going refl)
